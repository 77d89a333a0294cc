-- Each call on a replica leaves it standing, and leaves what is known of it.
use Rattle.std.proofs.Common.{◌≡◌, ℕ, ◌-◌, ◌≤◌, ◌⊎◌, inl, inr, Bool, true, false, not, List, [], ◌∷◌, ◌++◌, length, refl, sym, ap, subst, arith, ◌∙◌}
use Rattle.std.proofs.lemmas.Bool.Decides.{nat_tests}
use Rattle.std.specs.Prelude.{slice_set, replicate}
use Rattle.std.specs.declared.option.Option.{Option}
use Rattle.std.specs.declared.option.Option.TheVariants.{Some}
use Rattle.rmt_values.specs.Rows.{Shape}
use Rattle.rmt_names.specs.Names.{Name, rank}
use Rattle.rmt_entries.specs.declared.entry.Entry.{Entry}
use Rattle.rmt_entries.specs.declared.entry.Entry.TheVariants.{DropRange}
use Rattle.rmt_model.specs.Words.{Has}
use Rattle.rmt_model.specs.Live.{made, placed, in_drop, Dropped}
use Rattle.rmt_model.specs.Lawful.{Lawful, entry_at, MakesAt, IsPrefix}
use Rattle.rmt_model.specs.Fair.{CoveredBy, AreFair}
use Rattle.rmt_model.specs.CopiedParts.{Copied, IsCopied, names_of}
use Rattle.rmt_model.proofs.Lists.{Each-at, Each-all, Has-filter, Has-kept, rank-injective}
use Rattle.rmt_model.proofs.LiveLaws.{covered-placed}
use Rattle.rmt_model.proofs.Drops.{drop-takes, entry-has}
use Rattle.rmt_model.proofs.Standing.{with_mark, fair-fewer}
use Rattle.rmt_queue.specs.Marks.{done_at, grown}
use Rattle.rmt_events.specs.Views.{Block, Replica}
use Rattle.rmt_events.specs.ReplicaCalls.{IsKeptNote, IsStanding, with_entry_done, Settles, DoesDrop, DoesPart, without_range, Pulls, Stages, Unstages, GoesDown, ComesUp}
use Rattle.rmt_events.proofs.Copies.{made-at, made-behind, dropped-behind, makes-behind, part-behind}
use Rattle.rmt_events.proofs.Marks.{none-marked, length-marks, grown-mark, length-grown, past-end, length-set, set-mark}
use Rattle.rmt_events.proofs.FairSteps.{fair-behind, fair-settled, fair-swept, fair-served, names-without, Serves}

-- marks that were set, one of them now
fair-done : (log : List Entry) (done : List Bool) (i : ℕ) (names : List Name) → AreFair log (with_mark i (done_at done)) names → AreFair log (done_at (slice_set done i true)) names
fair-done log done i names f = fair-fewer log (done_at (slice_set done i true)) (with_mark i (done_at done)) names (λ j l e. set-mark done i j e) f

-- ---- nothing was to do

pub stands-settles : (schema : Shape) (r s : Replica) (i : ℕ) → IsStanding schema r → Settles r i s → IsStanding schema s
stands-settles schema r s i t c =
    subst (IsStanding schema) (sym c.change) (record {
      lawful = t.lawful;
      marks = length-set r.done i ∙ t.marks;
      fair = fair-done r.log r.done i (names_of r.parts) (fair-settled schema r i (done_at r.done) t c.cause t.fair);
      parts = t.parts;
      notes = t.notes;
    })

-- ---- a drop was done

-- what an active part covered is covered still, or dropped
pub swept-note : (schema : Shape) (r : Replica) (i : ℕ) (p : Option ℕ) (n : ℕ) (a : Name) → IsStanding schema r → entry_at r.log i ≡ Some (DropRange p n) → Has (made r.log) a → CoveredBy (names_of r.parts) a → CoveredBy (names_of (without_range p n r.parts)) a ⊎ Dropped r.log a
swept-note schema r i p n a t q m c = go (in_drop p n c.name) refl
  where
    stays : Name → Bool
    stays x = not (in_drop p n x)

    go : (b : Bool) → in_drop p n c.name ≡ b → CoveredBy (names_of (without_range p n r.parts)) a ⊎ Dropped r.log a
    go false e = inl (record { name = c.name; is_in = subst (λ (xs : List Name). Has xs c.name) (sym (names-without p n r.parts)) (Has-kept stays (names_of r.parts) c.name c.is_in (ap not e)); covers = c.covers })
    go true e =
        let k = c.covers.max in
        let f : rank p ≡ rank c.name.partition = grind (arith, nat_tests) in
        let u : c.name.max ≤ n = grind (arith, nat_tests) in
        inr (drop-takes schema r.log p n a t.lawful (entry-has r.log i (DropRange p n) q) m (rank-injective p c.name.partition f ∙ c.covers.partition) (omega (arith, k, u)))

pub stands-drop : (schema : Shape) (r s : Replica) (i : ℕ) → IsStanding schema r → DoesDrop r i s → IsStanding schema s
stands-drop schema r s i t c =
    subst (IsStanding schema) (sym c.change) (record {
      lawful = t.lawful;
      marks = length-set r.done i ∙ t.marks;
      fair = fair-done r.log r.done i (names_of left) (fair-swept schema r i (done_at r.done) c.partition c.number t c.stands t.fair);
      parts = Each-all Good left (λ x h. Each-at Good r.parts x t.parts (Has-filter stays r.parts x h).0);
      notes = Each-all (IsKeptNote new) r.noted (λ a h. let k = Each-at (IsKeptNote r) r.noted a t.notes h in (k.0, note a k.0 k.1));
    })
  where
    stays : Copied → Bool
    stays x = not (in_drop c.partition c.number x.name)

    left : List Copied
    left = without_range c.partition c.number r.parts

    new : Replica
    new = record (with_entry_done r i) { parts = without_range c.partition c.number r.parts }

    Good : Copied → Type 0
    Good x = MakesAt r.log x.place x.name × IsCopied schema r.log x

    note : (a : Name) → Has (made r.log) a → CoveredBy (names_of r.parts) a ⊎ Dropped r.log a → CoveredBy (names_of left) a ⊎ Dropped r.log a
    note a m (inl k) = swept-note schema r i c.partition c.number a t c.stands m k
    note a m (inr d) = inr d

-- ---- a part was installed

pub stands-part : (schema : Shape) (r s : Replica) (i : ℕ) (part : Copied) → IsStanding schema r → Serves schema r i part → DoesPart r i part s → IsStanding schema s
stands-part schema r s i part t v c =
    subst (IsStanding schema) (sym c.change) (record {
      lawful = t.lawful;
      marks = length-set r.done i ∙ t.marks;
      fair = subst (AreFair r.log (done_at (slice_set r.done i true))) (sym c.installs.names) (fair-done r.log r.done i (placed part.name (names_of r.parts)) (fair-served schema r i (done_at r.done) part t v t.fair));
      parts = Each-all Good s.parts (λ x h. elim (c.installs.others x h) [ inl e ↦ subst Good (sym e) (v.of_copy, v.holds) | inr k ↦ Each-at Good r.parts x t.parts k ]);
      notes = Each-all (IsKeptNote new) r.noted (λ a h. let k = Each-at (IsKeptNote r) r.noted a t.notes h in (k.0, note a k.1));
    })
  where
    new : Replica
    new = record (with_entry_done r i) { parts = s.parts }

    Good : Copied → Type 0
    Good x = MakesAt r.log x.place x.name × IsCopied schema r.log x

    note : (a : Name) → CoveredBy (names_of r.parts) a ⊎ Dropped r.log a → CoveredBy (names_of s.parts) a ⊎ Dropped r.log a
    note a (inl k) = inl (subst (λ (xs : List Name). CoveredBy xs a) (sym c.installs.names) (covered-placed part.name (names_of r.parts) a k))
    note a (inr d) = inr d

-- ---- the other calls

pub stands-pulls : (schema : Shape) (r s : Replica) (log : List Entry) → IsStanding schema r → Lawful schema log → IsPrefix r.log log → Pulls r log s → IsStanding schema s
stands-pulls schema r s log t l g c =
    subst (IsStanding schema) (sym c) (record {
      lawful = l;
      marks = length-grown r.done (length log) (omega (arith, t.marks, longer));
      fair = fair-fewer log (done_at (grown r.done (length log))) (done_at r.done) (names_of r.parts) (λ j i e. grown-mark r.done (length log - length r.done) j e)
          (subst (λ (x : List Entry). AreFair x (done_at r.done) (names_of r.parts)) (sym g.is) (fair-behind g.gained r.log (done_at r.done) (names_of r.parts) (λ j i. past-end r.done j (let e = t.marks in omega (arith, i, e))) t.fair));
      parts = Each-all Good r.parts (λ x h. good x (Each-at (λ x. MakesAt r.log x.place x.name × IsCopied schema r.log x) r.parts x t.parts h));
      notes = Each-all (IsKeptNote new) r.noted (λ a h. note a (Each-at (IsKeptNote r) r.noted a t.notes h));
    })
  where
    new : Replica
    new = record r { log = log; done = grown r.done (length log) }

    behind : (xs : List Entry) → length r.log ≤ length (xs ++ r.log)
    behind [] = omega arith
    behind (x ∷ xs) = let k = behind xs in omega (arith, k)

    longer : length r.log ≤ length log
    longer = let e : length log ≡ length (g.gained ++ r.log) = ap (λ (x : List Entry). length x) g.is in let k = behind g.gained in omega (arith, e, k)

    Good : Copied → Type 0
    Good x = MakesAt log x.place x.name × IsCopied schema log x

    good : (x : Copied) → MakesAt r.log x.place x.name × IsCopied schema r.log x → MakesAt log x.place x.name × IsCopied schema log x
    good x k =
        subst (λ (z : List Entry). MakesAt z x.place x.name × IsCopied schema z x) (sym g.is)
        (makes-behind g.gained r.log x.place x.name k.0, part-behind schema g.gained r.log x (subst (Lawful schema) g.is l) (made-at r.log x.place x.name k.0) k.1)

    note : (a : Name) → IsKeptNote r a → Has (made log) a × (CoveredBy (names_of r.parts) a ⊎ Dropped log a)
    note a k =
        subst (λ (z : List Entry). Has (made z) a × (CoveredBy (names_of r.parts) a ⊎ Dropped z a)) (sym g.is)
        (made-behind g.gained r.log a k.0, elim k.1 [ inl q ↦ inl q | inr d ↦ inr (dropped-behind g.gained r.log a d) ])

pub stands-stages : (schema : Shape) (r s : Replica) (n : ℕ) (b : Block) → IsStanding schema r → Stages r n b s → IsStanding schema s
stands-stages schema r s n b t c = subst (IsStanding schema) (sym c) (record { lawful = t.lawful; marks = t.marks; fair = t.fair; parts = t.parts; notes = t.notes })

pub stands-unstages : (schema : Shape) (r s : Replica) (p : Option ℕ) (n : ℕ) → IsStanding schema r → Unstages r p n s → IsStanding schema s
stands-unstages schema r s p n t c = subst (IsStanding schema) (sym c) (record { lawful = t.lawful; marks = t.marks; fair = t.fair; parts = t.parts; notes = t.notes })

pub stands-dies : (schema : Shape) (r s : Replica) → IsStanding schema r → GoesDown r s → IsStanding schema s
stands-dies schema r s t c = subst (IsStanding schema) (sym c) (record { lawful = t.lawful; marks = t.marks; fair = t.fair; parts = t.parts; notes = t.notes })

pub stands-wakes : (schema : Shape) (r s : Replica) → IsStanding schema r → ComesUp r s → IsStanding schema s
stands-wakes schema r s t c =
    subst (IsStanding schema) (sym c) (record {
      lawful = t.lawful;
      marks = length-marks (length r.log);
      fair = fair-fewer r.log (done_at (replicate (length r.log) false)) (done_at r.done) (names_of r.parts) (λ j l e. let f = none-marked (length r.log) j in absurd (cc)) t.fair;
      parts = t.parts;
      notes = t.notes;
    })
