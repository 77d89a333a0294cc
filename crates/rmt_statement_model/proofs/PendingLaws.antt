-- Mutations that are pending for live names below a place: what it says that there is none, and one name after the other.
use Rattle.std.proofs.Common.{◌≡◌, ◌⊎◌, ℕ, ◌+◌, ◌<◌, ◌≤◌, inl, inr, Bool, true, false, cond, not, List, [], ◌∷◌, length, filter, refl, sym, ap, subst, arith, ◌∙◌, nat_eq, nat_lt, nat_le}
use Rattle.std.proofs.lemmas.Bool.Decides.{nat_tests}
use Rattle.std.specs.declared.option.Option.{Option}
use Rattle.std.specs.declared.option.Option.TheVariants.{Some, None}
use Rattle.rmt_values.specs.declared.checked_mutation.CheckedMutation.{CheckedMutation}
use Rattle.rmt_values.specs.Rows.{Shape}
use Rattle.rmt_names.specs.Names.{Name, rank, data_version, covers, Covers, Overlap}
use Rattle.rmt_entries.specs.declared.entry.Entry.{Entry}
use Rattle.rmt_entries.specs.declared.entry.Entry.TheVariants.{Get, Merge, Mutate, Mutation, DropRange}
use Rattle.rmt_model.specs.Words.{Has, Pairwise}
use Rattle.rmt_model.specs.Live.{Before, live}
use Rattle.rmt_model.specs.Lawful.{Lawful, IsMutate, IsMutationWith, entry_at}
use Rattle.rmt_model.proofs.Lists.{Each-at, Has-filter, Has-inserted}
use Rattle.rmt_model.proofs.LiveLaws.{Tight, tight, covers-holds, not-kept, one-live, pending-above, placed-old}
use Rattle.rmt_model.proofs.Drops.{some-same, entry-has, entry-older}
use Rattle.rmt_model.proofs.VersionLaws.{below-limit}
use Rattle.rmt_history.specs.Mutations.{number_in}
use Rattle.rmt_model.specs.Choices.{is_pending, last_pending}
use Rattle.rmt_history.proofs.NumberLemmas.{passes, pending-number, in-with, with-in, log-order}
use Rattle.rmt_events.specs.LogEvents.{IsMutable}
use Rattle.rmt_statement_model.specs.Waits.{IsCarried, NonePending, SomePending}
use Rattle.rmt_statement_model.proofs.MutationIds.{ids-rise}
use Rattle.rmt_statement_model.proofs.PendingPlaces.{IsLastPending, settled-below, last-at, last-same, settled-after}

-- ---- nothing is pending

-- an entry of a log stands at a place
has-place : (log : List Entry) (e : Entry) → Has log e → (i : ℕ) × (entry_at log i ≡ Some e)
has-place [] e h = absurd h
has-place (x ∷ log) e (inl q) =
    let t : nat_eq (length log) (length log) ≡ true = grind (arith, nat_tests) in
    (length log, ap (λ (b : Bool). cond b (Some x) (entry_at log (length log))) t ∙ ap Some q)
has-place (x ∷ log) e (inr h) = let r = has-place log e h in (r.0, entry-older x log r.0 e r.1)

-- a mutation that takes a number in a name's partition and isn't pending for it has that number at most at its data version
number-below : (schema : Shape) (log : List Entry) (i n : ℕ) (a : Name) (e : Entry) → Lawful schema log → entry_at log i ≡ Some e → IsMutationWith (Some e) a.partition n → is_pending a e ≡ false → n ≤ data_version a
number-below schema log i n a e l h k p =
    let o = log-order schema log i e l h in
    let q : nat_lt (data_version a) n ≡ false = sym (pending-number a e o ∙ ap (passes (λ m. nat_lt (data_version a) m)) (with-in e a.partition n o k)) ∙ p in
    grind (arith, nat_tests)

-- where no mutation up to a place is pending for a name, none is up to the id of the mutation there
pub carried : (schema : Shape) (log : List Entry) (place id : ℕ) (numbers : List (Option ℕ × ℕ)) (command : CheckedMutation) (a : Name) → Lawful schema log → entry_at log place ≡ Some (Mutation id numbers command) → last_pending log a (place + 1) ≡ None → IsCarried log id a
carried schema log place id numbers command a l at f k n others change h m j =
    let r = has-place log (Mutation k others change) h in
    let q = ids-rise schema log r.0 place k id others numbers change command l r.1 at m in
    number-below schema log r.0 n a (Mutation k others change) l r.1 j
    (settled-below log a (place + 1) r.0 (Mutation k others change) f r.1 (omega (arith, q)))

-- nor for any live name
pub none-pending : (schema : Shape) (log : List Entry) (place id : ℕ) (numbers : List (Option ℕ × ℕ)) (command : CheckedMutation) → Lawful schema log → entry_at log place ≡ Some (Mutation id numbers command) → ((a : Name) → Has (live log) a → last_pending log a (place + 1) ≡ None) → NonePending log id
none-pending schema log place id numbers command l at f a i = carried schema log place id numbers command a l at (f a i)

-- ---- what is pending for a live name

-- a live name may be mutated up to the last mutation that is pending for it
pub pending-mutable : (schema : Shape) (log : List Entry) (upto : ℕ) (old : Name) (i : ℕ) → Lawful schema log → Has (live log) old → last_pending log old upto ≡ Some i → IsMutable log old i × (i < upto)
pending-mutable schema log upto old i l h e =
    let w = last-at log old upto i e in
    (mutable h w (number_in w.entry old.partition) refl (sym (pending-number old w.entry (log-order schema log i w.entry l w.stands)) ∙ w.pends), w.below)
  where
    mutable : Has (live log) old → (w : IsLastPending log old upto i) → (o : Option ℕ) → number_in w.entry old.partition ≡ o → passes (λ m. nat_lt (data_version old) m) (number_in w.entry old.partition) ≡ true → IsMutable log old i
    mutable h w None q p = let k = ap (passes (λ m. nat_lt (data_version old) m)) q in absurd (cc)
    mutable h w (Some n) q p =
        let k : nat_lt (data_version old) n ≡ true = sym (ap (passes (λ m. nat_lt (data_version old) m)) q) ∙ p in
        let v = below-limit log old.partition (data_version old) in
        let d : data_version old < n = grind (arith, nat_tests) in
        record {
          is_live = h;
          number = n;
          at = subst (λ (o : Option Entry). IsMutationWith o old.partition n) (sym w.stands) (in-with w.entry old.partition n q);
          pending = omega (arith, v, d);
        }

-- a mutation that stands no later has no greater id
no-later : (schema : Shape) (log : List Entry) (i place k id : ℕ) (others numbers : List (Option ℕ × ℕ)) (change command : CheckedMutation) → Lawful schema log → entry_at log i ≡ Some (Mutation k others change) → entry_at log place ≡ Some (Mutation id numbers command) → i ≤ place → k ≤ id
no-later schema log i place k id others numbers change command l e at h = go (nat_le k id) refl
  where
    same : i ≡ place → k ≡ id
    same q =
        let m : Mutation k others change ≡ Mutation id numbers command = some-same (Mutation k others change) (Mutation id numbers command) (sym e ∙ (ap (entry_at log) q ∙ at)) in
        cc

    go : (b : Bool) → nat_le k id ≡ b → k ≤ id
    go true q = grind (arith, nat_tests)
    go false q =
        let m : id ≤ k = grind (arith, nat_tests) in
        let p = ids-rise schema log place i id k numbers others command change l at e m in
        let s = same (omega (arith, p, h)) in
        omega (arith, s)

-- where a mutation up to a place is pending for a live name, its id is at most that of the mutation there
pub some-pending : (schema : Shape) (log : List Entry) (place id i : ℕ) (numbers : List (Option ℕ × ℕ)) (command : CheckedMutation) (old : Name) → Lawful schema log → entry_at log place ≡ Some (Mutation id numbers command) → Has (live log) old → last_pending log old (place + 1) ≡ Some i → SomePending log id
some-pending schema log place id i numbers command old l at is_live e = go w.entry w.stands w.pends (number_in w.entry old.partition) refl
  where
    w : IsLastPending log old (place + 1) i
    w = last-at log old (place + 1) i e

    go : (x : Entry) → entry_at log i ≡ Some x → is_pending old x ≡ true → (o : Option ℕ) → number_in x old.partition ≡ o → SomePending log id
    go (Get q n digest source need) s p o k = absurd (cc)
    go (Merge new sources count) s p o k = absurd (cc)
    go (Mutate from new upto count mcount) s p o k = absurd (cc)
    go (DropRange q n) s p o k = absurd (cc)
    go (Mutation k others change) s p None q =
        let f = sym (ap (passes (λ m. nat_lt (data_version old) m)) q) ∙ (sym (pending-number old (Mutation k others change) (log-order schema log i (Mutation k others change) l s)) ∙ p) in
        absurd (cc)
    go (Mutation k others change) s p (Some n) q =
        let f : nat_lt (data_version old) n ≡ true = sym (ap (passes (λ m. nat_lt (data_version old) m)) q) ∙ (sym (pending-number old (Mutation k others change) (log-order schema log i (Mutation k others change) l s)) ∙ p) in
        let b = w.below in
        record {
          mutation = k;
          number = n;
          numbers = others;
          command = change;
          name = old;
          is_there = entry-has log i (Mutation k others change) s;
          up_to = no-later schema log i place k id others numbers change command l s at (omega (arith, b));
          is_live = is_live;
          numbered = in-with (Mutation k others change) old.partition n q;
          above = grind (arith, nat_tests);
        }

-- ---- a name that was mutated

-- it has no mutation pending below the place any more
new-settled : (schema : Shape) (log : List Entry) (upto : ℕ) (old name : Name) (i count mcount : ℕ) → last_pending log old upto ≡ Some i → Lawful schema (Mutate old name i count mcount ∷ log) → last_pending (Mutate old name i count mcount ∷ log) name upto ≡ None
new-settled schema log upto old name i count mcount e l =
    let m : IsMutate log old name i count mcount = l.1 in
    let p = m.pending in
    last-same log name old name upto i count mcount
    ∙ subst (λ (a : Name). last_pending log a upto ≡ None) (sym m.name) (settled-after schema log upto i m.number old l.0 (last-at log old upto i e) m.at (omega (arith, p)))

-- nor has it one up to the id of the mutation at a place, if it was mutated up to the last that was pending up to there
pub new-carried : (schema : Shape) (log : List Entry) (place id i count mcount : ℕ) (old name : Name) (numbers : List (Option ℕ × ℕ)) (command : CheckedMutation) → Lawful schema (Mutate old name i count mcount ∷ log) → entry_at log place ≡ Some (Mutation id numbers command) → last_pending log old (place + 1) ≡ Some i → IsCarried log id name
new-carried schema log place id i count mcount old name numbers command l at e =
    carried schema log place id numbers command name l.0 at (sym (last-same log name old name (place + 1) i count mcount) ∙ new-settled schema log (place + 1) old name i count mcount e l)

-- it covers the name that it was
new-covers : (schema : Shape) (log : List Entry) (old name : Name) (i count mcount : ℕ) → Lawful schema (Mutate old name i count mcount ∷ log) → covers name old ≡ true
new-covers schema log old name i count mcount l =
    let m : IsMutate log old name i count mcount = l.1 in
    let d = pending-above log old name i count mcount m in
    let v : old.mutation ≤ data_version old = grind (arith, nat_tests) in
    ap (λ (a : Name). covers a old) m.name
    ∙ covers-holds (record old { mutation = m.number }) old (record { partition = refl; min = omega arith; max = omega arith; level = omega arith; mutation = omega (arith, d, v) })

-- what is live then is that name, or was live and is another than the old one
live-mutated : (schema : Shape) (log : List Entry) (old name : Name) (i count mcount : ℕ) (a : Name) → Lawful schema (Mutate old name i count mcount ∷ log) → Has (live (Mutate old name i count mcount ∷ log)) a → (name ≡ a) ⊎ (Has (live log) a × (old ≡ a → ⊥))
live-mutated schema log old name i count mcount a l h = elim (Has-inserted name (filter (λ b. not (covers name b)) (live log)) a h) [
  | inl e ↦ inl e
  | inr k ↦
      let r = Has-filter (λ b. not (covers name b)) (live log) a k in
      inr (r.0, λ q. not-kept (covers name a) (ap (covers name) (sym q) ∙ new-covers schema log old name i count mcount l) r.1)
]

-- another name that was live is so still
live-still : (schema : Shape) (log : List Entry) (old name : Name) (i count mcount : ℕ) (b : Name) → Lawful schema (Mutate old name i count mcount ∷ log) → Has (live log) b → (old ≡ b → ⊥) → Has (live (Mutate old name i count mcount ∷ log)) b
live-still schema log old name i count mcount b l h n = elim (placed-old name (live log) b h) [ inl c ↦ absurd (n (one-live log old b t m.is_live h (overlap (subst (λ (a : Name). Covers a b) m.name c)))) | inr k ↦ k ]
  where
    m : IsMutate log old name i count mcount
    m = l.1

    t : Tight log
    t = tight schema log l.0

    overlap : Covers (record old { mutation = m.number }) b → Overlap old b
    overlap c = let s = t.sized b h in let u = c.min in let v = c.max in record { partition = c.partition; low = omega (arith, s, u); high = omega (arith, s, v) }

-- ---- names one after the other

-- the names are live, and no mutation below the place is pending for another live name
pub record AreToCome (log : List Entry) (upto : ℕ) (names : List Name) : Type 0 where
  pub ordered : Pairwise Before names
  pub are_live : (b : Name) → Has names b → Has (live log) b
  pub settled : (a : Name) → Has (live log) a → (last_pending log a upto ≡ None) ⊎ Has names a

-- all live names are
pub all-to-come : (schema : Shape) (log : List Entry) (upto : ℕ) → Lawful schema log → AreToCome log upto (live log)
all-to-come schema log upto l = record { ordered = Tight.apart (tight schema log l); are_live = λ b h. h; settled = λ a h. inr h }

-- once none is left, none is pending
pub none-to-come : (log : List Entry) (upto : ℕ) → AreToCome log upto [] → (a : Name) → Has (live log) a → last_pending log a upto ≡ None
none-to-come log upto c a h = elim (c.settled a h) [ inl e ↦ e | inr m ↦ absurd m ]

-- the first one has none pending
pub one-passed : (log : List Entry) (upto : ℕ) (old : Name) (names : List Name) → AreToCome log upto (old ∷ names) → last_pending log old upto ≡ None → AreToCome log upto names
one-passed log upto old names c e = record {
  ordered = c.ordered.1;
  are_live = λ b h. c.are_live b (inr h);
  settled = λ a h. elim (c.settled a h) [ inl k ↦ inl k | inr m ↦ elim m [ inl q ↦ inl (subst (λ (x : Name). last_pending log x upto ≡ None) q e) | inr n ↦ inr n ] ];
}

-- the first one is mutated
pub one-mutated : (schema : Shape) (log : List Entry) (upto : ℕ) (old name : Name) (names : List Name) (i count mcount : ℕ) → AreToCome log upto (old ∷ names) → last_pending log old upto ≡ Some i → Lawful schema (Mutate old name i count mcount ∷ log) → AreToCome (Mutate old name i count mcount ∷ log) upto names
one-mutated schema log upto old name names i count mcount c e l = record {
  ordered = c.ordered.1;
  are_live = λ b h. live-still schema log old name i count mcount b l (c.are_live b (inr h)) (λ q. apart b q (c.are_live b (inr h)) (Each-at (Before old) names b c.ordered.0 h));
  settled = λ a h. elim (live-mutated schema log old name i count mcount a l h) [
    | inl q ↦ inl (subst (λ (x : Name). last_pending (Mutate old name i count mcount ∷ log) x upto ≡ None) q (new-settled schema log upto old name i count mcount e l))
    | inr k ↦ elim (c.settled a k.0) [
      | inl f ↦ inl (last-same log a old name upto i count mcount ∙ f)
      | inr m ↦ elim m [ inl q ↦ absurd (k.1 q) | inr n ↦ inr n ]
    ]
  ];
}
  where
    apart : (b : Name) → old ≡ b → Has (live log) b → Before old b → ⊥
    apart b q h (inl r) = let p : rank old.partition ≡ rank b.partition = ap (λ (x : Name). rank x.partition) q in omega (arith, p, r)
    apart b q h (inr r) = let s = Tight.sized (tight schema log l.0) b h in let p : old.max ≡ b.max = ap (λ (x : Name). x.max) q in let u = r.1 in omega (arith, s, p, u)
