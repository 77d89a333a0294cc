-- What entries record of the blocks of live parts.
use Rattle.std.proofs.Common.{◌≡◌, ℕ, ◌+◌, ◌≤◌, List, ◌∷◌, length, sym, subst, arith, ◌∙◌}
use Rattle.std.specs.declared.option.Option.TheVariants.{Some}
use Rattle.rmt_values.specs.Rows.{Shape}
use Rattle.rmt_values.specs.Order.{tally}
use Rattle.rmt_names.specs.Names.{Name}
use Rattle.rmt_entries.specs.declared.entry.Entry.{Entry}
use Rattle.rmt_model.specs.Words.{Has, Each}
use Rattle.rmt_model.specs.Live.{live}
use Rattle.rmt_model.specs.Lawful.{Lawful, MakesAt, entry_at, block_count}
use Rattle.rmt_model.proofs.Drops.{some-same, entry-below}
use Rattle.rmt_table_model.specs.Counts.{recorded}
use Rattle.rmt_table_model.proofs.CountLemmas.{recorded-count}

-- a live name is made at a place below the log's length
pub made-below : (log : List Entry) (i : ℕ) (a : Name) → MakesAt log i a → length log ≤ i → ⊥
made-below log i a m l = let b = entry-below log i m.entry m.stands in omega (arith, b, l)

-- the entry at the place that made a live name has the count of its blocks
pub recorded-at : (schema : Shape) (log : List Entry) (i : ℕ) (e : Entry) (a : Name) → Lawful schema log → Has (live log) a → MakesAt log i a → entry_at log i ≡ Some e → recorded e ≡ block_count log a
recorded-at schema log i e a l h m q =
    subst (λ (x : Entry). recorded x ≡ block_count log a) (some-same m.entry e (sym m.stands ∙ q)) (recorded-count schema log i m.entry a l h m.stands m.makes)

-- a sum with one more
pub sum-next : (f : Name → ℕ) (P : Name → Type 0) (ys zs : List Name) (a : Name) (count more total : ℕ) → (count + tally f ys ≡ total) × Each P ys → ys ≡ a ∷ zs → more ≡ f a → ((count + more) + tally f zs ≡ total) × Each P zs
sum-next f P ys zs a count more total i e m =
    let j : (count + tally f (a ∷ zs) ≡ total) × Each P (a ∷ zs) = subst (λ (l : List Name). (count + tally f l ≡ total) × Each P l) e i in
    (let k = j.0 in omega (arith, k, m), j.1.1)
