-- The ids of a log's mutations are counted in the order of their places.
use Rattle.std.proofs.Common.{◌≡◌, ℕ, ◌+◌, ◌<◌, ◌≤◌, inl, inr, Bool, true, false, cond, List, [], ◌∷◌, filter, length, refl, ap, subst, arith, ◌∙◌}
use Rattle.std.proofs.lemmas.List.Sums.{sum_by-cons}
use Rattle.std.specs.declared.option.Option.{Option}
use Rattle.std.specs.declared.option.Option.TheVariants.{Some}
use Rattle.rmt_values.specs.declared.checked_mutation.CheckedMutation.{CheckedMutation}
use Rattle.rmt_values.specs.Rows.{Shape}
use Rattle.rmt_entries.specs.declared.entry.Entry.{Entry}
use Rattle.rmt_entries.specs.declared.entry.Entry.TheVariants.{Get, Merge, Mutate, Mutation, DropRange}
use Rattle.rmt_model.specs.Words.{Has}
use Rattle.rmt_model.specs.Lawful.{Lawful, Meets, IsMutation, entry_at, is_mutation, mutation_count}
use Rattle.rmt_model.proofs.Drops.{entry-below, entry-cases, entry-has}

-- the newest entry counts where it is a mutation
count-next : (e : Entry) (log : List Entry) → mutation_count (e ∷ log) ≡ cond (is_mutation e) 1 0 + mutation_count log
count-next e log = sum_by-cons (λ x. cond (is_mutation x) 1 0) e log

-- the newest mutation's id is how many there were
newest-id : (schema : Shape) (log : List Entry) (e : Entry) (id : ℕ) (numbers : List (Option ℕ × ℕ)) (command : CheckedMutation) → Meets schema log e → e ≡ Mutation id numbers command → id ≡ mutation_count log
newest-id schema log e id numbers command m q = IsMutation.numbered (subst (Meets schema log) q m)

-- each id is below their count
id-below : (schema : Shape) (log : List Entry) (id : ℕ) (numbers : List (Option ℕ × ℕ)) (command : CheckedMutation) → Lawful schema log → Has log (Mutation id numbers command) → id < mutation_count log
id-below schema [] id numbers command l h = absurd h
id-below schema (e ∷ log) id numbers command l (inl q) =
    let n = newest-id schema log e id numbers command l.1 q in
    let c : mutation_count (e ∷ log) ≡ 1 + mutation_count log = count-next e log ∙ ap (λ (x : Entry). cond (is_mutation x) 1 0 + mutation_count log) q in
    omega (arith, n, c)
id-below schema (e ∷ log) id numbers command l (inr h) = more (is_mutation e) (count-next e log) (id-below schema log id numbers command l.0 h)
  where
    more : (b : Bool) → mutation_count (e ∷ log) ≡ cond b 1 0 + mutation_count log → id < mutation_count log → id < mutation_count (e ∷ log)
    more true c k = omega (arith, c, k)
    more false c k = omega (arith, c, k)

-- a mutation whose id isn't greater stands no later
pub ids-rise : (schema : Shape) (log : List Entry) (i j k m : ℕ) (old new : List (Option ℕ × ℕ)) (first second : CheckedMutation) → Lawful schema log → entry_at log i ≡ Some (Mutation k old first) → entry_at log j ≡ Some (Mutation m new second) → k ≤ m → i ≤ j
ids-rise schema [] i j k m old new first second l e f h = absurd (cc)
ids-rise schema (x ∷ log) i j k m old new first second l e f h = elim (entry-cases x log i (Mutation k old first) e) [
  | inl a ↦ elim (entry-cases x log j (Mutation m new second) f) [
    | inl b ↦ let p = a.0 in let q = b.0 in omega (arith, p, q)
    | inr b ↦
        let n = newest-id schema log x k old first l.1 a.1 in
        let u = id-below schema log m new second l.0 (entry-has log j (Mutation m new second) b) in
        absurd (omega (arith, n, u, h))
  ]
  | inr a ↦ elim (entry-cases x log j (Mutation m new second) f) [
    | inl b ↦ let u = entry-below log i (Mutation k old first) a in let q = b.0 in omega (arith, u, q)
    | inr b ↦ ids-rise schema log i j k m old new first second l.0 a b h
  ]
]

-- no two mutations have one id
pub one-place : (schema : Shape) (log : List Entry) (i j id : ℕ) (old new : List (Option ℕ × ℕ)) (first second : CheckedMutation) → Lawful schema log → entry_at log i ≡ Some (Mutation id old first) → entry_at log j ≡ Some (Mutation id new second) → i ≡ j
one-place schema log i j id old new first second l e f =
    let p = ids-rise schema log i j id id old new first second l e f (omega arith) in
    let q = ids-rise schema log j i id id new old second first l f e (omega arith) in
    omega (arith, p, q)

-- ---- in the order of their ids

-- the entry is the mutation of this id
abbrev pub IsMutationOf : ℕ → Entry → Type 0
IsMutationOf id e = (numbers : List (Option ℕ × ℕ)) × (command : CheckedMutation) × (e ≡ Mutation id numbers command)

-- the entries are mutations whose ids count down to k
abbrev pub CountsDown : ℕ → List Entry → Type 0
CountsDown k [] = Unit {0}
CountsDown k (e ∷ rest) = IsMutationOf (length rest + k) e × CountsDown k rest

-- a log's mutations are as many as there are ids, and these count down to 0
pub counted-down : (schema : Shape) (log : List Entry) → Lawful schema log → CountsDown 0 (filter is_mutation log) × (length (filter is_mutation log) ≡ mutation_count log)
counted-down schema [] l = (tt, refl)
counted-down schema (e ∷ log) l = go e l.1 (count-next e log) (counted-down schema log l.0)
  where
    go : (x : Entry) → Meets schema log x → mutation_count (x ∷ log) ≡ cond (is_mutation x) 1 0 + mutation_count log → CountsDown 0 (filter is_mutation log) × (length (filter is_mutation log) ≡ mutation_count log)
        → CountsDown 0 (filter is_mutation (x ∷ log)) × (length (filter is_mutation (x ∷ log)) ≡ mutation_count (x ∷ log))
    go (Mutation id numbers command) m n r =
        let q = r.1 in
        let i = newest-id schema log (Mutation id numbers command) id numbers command m refl in
        (((numbers, command, ap (λ (k : ℕ). Mutation k numbers command) (omega (arith, i, q))), r.0), omega (arith, q, n))
    go (Get p k digest source need) m n r = (r.0, let q = r.1 in omega (arith, q, n))
    go (Merge new sources count) m n r = (r.0, let q = r.1 in omega (arith, q, n))
    go (Mutate old new upto count mcount) m n r = (r.0, let q = r.1 in omega (arith, q, n))
    go (DropRange p k) m n r = (r.0, let q = r.1 in omega (arith, q, n))
