-- How high the levels of names rise along a lawful log: no higher than it is long.
use Rattle.std.proofs.Common.{◌≤◌, inl, inr, List, [], ◌∷◌, length, ap, arith}
use Rattle.rmt_values.specs.Rows.{Shape}
use Rattle.rmt_names.specs.Names.{Name}
use Rattle.rmt_entries.specs.declared.entry.Entry.{Entry}
use Rattle.rmt_entries.specs.declared.entry.Entry.TheVariants.{Get, Merge, Mutate, Mutation, DropRange}
use Rattle.rmt_model.specs.Words.{Has}
use Rattle.rmt_model.specs.Live.{made}
use Rattle.rmt_model.specs.Lawful.{Lawful}
use Rattle.rmt_model.proofs.LiveLaws.{tight, source-live}
use Rattle.rmt_model.proofs.VersionLaws.{live-made, highest-reached}

-- each name that a log made has a level of at most the log's length
pub level-of-made : (schema : Shape) (log : List Entry) → Lawful schema log → (a : Name) → Has (made log) a → a.level ≤ length log
level-of-made schema [] l a h = absurd h
level-of-made schema (Get p n digest source need ∷ log) l a (inl e) = let w = ap (λ x. x.level) e in omega (arith, w)
level-of-made schema (Get p n digest source need ∷ log) l a (inr h) = let w = level-of-made schema log l.0 a h in omega (arith, w)
level-of-made schema (Merge new [] count ∷ log) l a h = absurd l.1
level-of-made schema (Merge new (b ∷ []) count ∷ log) l a h = absurd l.1
level-of-made schema (Merge new (b ∷ c ∷ rest) count ∷ log) l a (inl e) =
    let s = l.1 in
    let top = highest-reached (λ x. x.level) b (c ∷ rest) in
    let w = level-of-made schema log l.0 top.0 (live-made log top.0 (source-live log (tight schema log l.0) b c rest new count s top.0 top.1)) in
    let u = top.2 in
    let n = ap (λ x. x.level) s.name in
    let k = ap (λ x. x.level) e in
    omega (arith, w, u, n, k)
level-of-made schema (Merge new (b ∷ c ∷ rest) count ∷ log) l a (inr h) = let w = level-of-made schema log l.0 a h in omega (arith, w)
level-of-made schema (Mutate old new upto count mcount ∷ log) l a (inl e) =
    let s = l.1 in
    let w = level-of-made schema log l.0 old (live-made log old s.is_live) in
    let n = ap (λ x. x.level) s.name in
    let k = ap (λ x. x.level) e in
    omega (arith, w, n, k)
level-of-made schema (Mutate old new upto count mcount ∷ log) l a (inr h) = let w = level-of-made schema log l.0 a h in omega (arith, w)
level-of-made schema (Mutation id numbers command ∷ log) l a h = let w = level-of-made schema log l.0 a h in omega (arith, w)
level-of-made schema (DropRange p n ∷ log) l a h = let w = level-of-made schema log l.0 a h in omega (arith, w)
