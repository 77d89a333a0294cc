-- A Get that a replica with the whole log can't do: it is known at no replica that is up.
use Rattle.std.proofs.Common.{◌≡◌, ℕ, ◌<◌, ◌≤◌, ◌⊎◌, inl, inr, Bool, true, false, cond, List, [], ◌∷◌, ◌++◌, length, refl, sym, ap, subst, arith, ◌∙◌, nat_eq}
use Rattle.std.proofs.lemmas.Bool.Decides.{nat_tests}
use Rattle.std.specs.declared.option.Option.{Option}
use Rattle.std.specs.declared.option.Option.TheVariants.{Some}
use Rattle.rmt_names.specs.Names.{Name, Covers, block_name}
use Rattle.rmt_entries.specs.Entries.{result_name}
use Rattle.rmt_entries.specs.declared.entry.Entry.{Entry}
use Rattle.rmt_entries.specs.declared.entry.Entry.TheVariants.{Get}
use Rattle.rmt_model.specs.Words.{Has}
use Rattle.rmt_model.specs.Live.{Dropped}
use Rattle.rmt_model.specs.Lawful.{entry_at, MakesAt, IsPrefix}
use Rattle.rmt_model.specs.Fair.{CoveredBy, MadeAtMark}
use Rattle.rmt_model.specs.CopiedParts.{Copied, IsCopied, names_of}
use Rattle.rmt_model.proofs.Lists.{Each-at}
use Rattle.rmt_model.proofs.Drops.{entry-cases, entry-below}
use Rattle.rmt_events.specs.Views.{Replica}
use Rattle.rmt_events.specs.ReplicaCalls.{IsStanding}
use Rattle.rmt_events.specs.Clusters.{Cluster}
use Rattle.rmt_events.specs.Whole.{Follows, IsWhole}
use Rattle.rmt_events.specs.ApplyEvents.{WaitsAt, LacksPart}
use Rattle.rmt_events.proofs.Copies.{dropped-behind, entry-front}
use Rattle.rmt_events.proofs.Drains.{nat-same}
use Rattle.rmt_events.proofs.WholeTries.{one-replica}
use Rattle.rmt_statement_model.specs.Shows.{Knows, up_at, ups}

-- a replica that is told to be up is there
pub record IsThere (xs : List Replica) (k : ℕ) : Type 0 where
  pub replica : Replica
  pub is_in : Has xs replica
  pub number : replica.number ≡ k
  pub up : replica.up ≡ true

pub up-there : (xs : List Replica) (k : ℕ) → up_at xs k ≡ true → IsThere xs k
up-there [] k e = absurd (cc)
up-there (x ∷ xs) k e = go (nat_eq x.number k) refl e (up-there xs k)
  where
    go : (b : Bool) → nat_eq x.number k ≡ b → cond b x.up (up_at xs k) ≡ true → (up_at xs k ≡ true → IsThere xs k) → IsThere (x ∷ xs) k
    go true q h f = record { replica = x; is_in = inl refl; number = (let n : x.number ≡ k = grind (arith, nat_tests) in n); up = h }
    go false q h f = let y = f h in record { replica = y.replica; is_in = inr y.is_in; number = y.number; up = y.up }

-- the entry at a marked place makes its result
pub made-mark : (log : List Entry) (i : ℕ) (m : ℕ → Bool) (e : Entry) (a : Name) → entry_at log i ≡ Some e → result_name e ≡ Some a → m i ≡ true → MadeAtMark log m a
made-mark [] i m e a q r t = absurd (cc)
made-mark (x ∷ log) i m e a q r t = elim (entry-cases x log i e q) [
  | inl k ↦ inl (ap m (sym k.0) ∙ t, ap result_name k.1 ∙ r)
  | inr k ↦ inr (made-mark log i m e a k r t)
]

-- the part of a name
named-part : (parts : List Copied) (a : Name) → Has (names_of parts) a → (part : Copied) × Has parts part × (part.name ≡ a)
named-part [] a h = absurd h
named-part (part ∷ parts) a (inl e) = (part, inl refl, e)
named-part (part ∷ parts) a (inr h) = let p = named-part parts a h in (p.0, inr p.1, p.2)

prefix-length : (x y : List Entry) → IsPrefix x y → length x ≤ length y
prefix-length x y p = go p.gained y p.is
  where
    go : (gained z : List Entry) → z ≡ gained ++ x → length x ≤ length z
    go [] z e = let l = ap length e in omega (arith, l)
    go (g ∷ gained) z e = let l = ap length e in let m = go gained (gained ++ x) refl in omega (arith, l, m)

-- a replica of another number that is up doesn't know a Get that is missing here, nor does this one
pub unknown-there : (u : Cluster) (r i : ℕ) (x : Replica) (p : Option ℕ) (n source need : ℕ) (digest : List ℕ) (a : Name) (known : ℕ → ℕ → Bool) → IsWhole u → x.log ≡ u.table.log
    → WaitsAt u r i x (Get p n digest source need) → LacksPart u r x (Get p n digest source need) a → ((z : Replica) → Has u.replicas z → Knows z (known z.number)) → (k : ℕ) → ups u k ≡ true → known k i ≡ false
unknown-there u r i x p n source need digest a known w whole t l f k up = go (known k i) refl
  where
    y : IsThere u.replicas k
    y = up-there u.replicas k up

    knows : Knows y.replica (known k)
    knows = subst (λ j. Knows y.replica (known j)) y.number (f y.replica y.is_in)

    follows : Follows u y.replica
    follows = Each-at (Follows u) u.replicas y.replica w.follow y.is_in

    prefix : IsPrefix y.replica.log x.log
    prefix = subst (λ (z : List Entry). IsPrefix y.replica.log z) (sym whole) (Follows.prefix follows)

    stands : i < length y.replica.log → entry_at y.replica.log i ≡ Some (Get p n digest source need)
    stands b = entry-front prefix.gained y.replica.log i (Get p n digest source need) b (subst (λ (z : List Entry). entry_at z i ≡ Some (Get p n digest source need)) prefix.is t.at)

    makes : MakesAt x.log i (block_name p n)
    makes = record { entry = Get p n digest source need; stands = t.at; makes = refl }

    dropped : Dropped y.replica.log (block_name p n) → ⊥
    dropped d = t.waits.not_dropped (record { name = block_name p n; makes = makes; dropped = subst (λ (z : List Entry). Dropped z (block_name p n)) (sym prefix.is) (dropped-behind prefix.gained y.replica.log (block_name p n) d) })

    covered : CoveredBy (names_of y.replica.parts) (block_name p n) → ⊥
    covered c = elim (nat-same y.replica.number r) [
      | inl q ↦
          let same : y.replica ≡ x = one-replica u y.replica x w y.is_in t.is.at.is_in (q ∙ sym t.is.at.number) in
          t.waits.open_entry (inr (inr (record { name = block_name p n; makes = makes; covered = subst (λ (z : Replica). CoveredBy (names_of z.parts) (block_name p n)) same c })))
      | inr q ↦
          let part = named-part y.replica.parts c.name c.is_in in
          let made = (Each-at (λ (z : Copied). MakesAt y.replica.log z.place z.name × IsCopied u.table.schema y.replica.log z) y.replica.parts part.0 (IsStanding.parts (Follows.stands follows)) part.1).0 in
          let below = entry-below y.replica.log part.0.place made.entry made.stands in
          let few = prefix-length y.replica.log x.log prefix in
          l.2 y.replica (record { is_in = y.is_in; up = y.up; other = q }) (inl (part.0, part.1, subst (λ (b : Name). Covers b (block_name p n)) (sym part.2) c.covers, omega (arith, below, few)))
    ]

    go : (b : Bool) → known k i ≡ b → b ≡ false
    go false e = refl
    go true e = absurd (at-mark (before i (length y.replica.log)))
      where
        before : (j m : ℕ) → (j < m) ⊎ (m ≤ j)
        before j m = grind arith

        at-mark : (i < length y.replica.log) ⊎ (length y.replica.log ≤ i) → ⊥
        at-mark (inr b) = let q = knows.within i b in absurd (cc)
        at-mark (inl b) = elim (knows.fair.answered (block_name p n) (made-mark y.replica.log i (known k) (Get p n digest source need) (block_name p n) (stands b) refl e)) [
          | inl c ↦ covered c
          | inr d ↦ dropped d
        ]
