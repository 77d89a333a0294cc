-- The functions of the table alone that both sides have are the same.
use Rattle.std.proofs.Common.{◌≡◌, ℕ, ◌+◌, ◌<◌, ◌≤◌, ◌&&◌, inl, inr, Bool, true, false, cond, List, [], ◌∷◌, refl, sym, ap, arith, ◌∙◌, nat_eq, nat_lt, nat_le, is_none, length, map}
use Rattle.std.proofs.lemmas.Bool.Decides.{nat_tests}
use Rattle.std.specs.Option.{option_map}
use Rattle.std.specs.declared.option.Option.{Option}
use Rattle.std.specs.declared.option.Option.TheVariants.{Some, None}
use Rattle.rmt_values.specs.declared.limit.Limit.TheVariants as limits
use Rattle.rmt_names.specs.Names.{rank}
use Rattle.rmt_entries.specs.declared.entry.Entry.{Entry}
use Rattle.rmt_model.specs.Words.{Has, Each}
use Rattle.rmt_model.specs.Lawful.{mutation_count}
use Rattle.rmt_model.specs.Window.{Kept, kept}
use Rattle.rmt_model.proofs.Lists.{Each-at, Each-all, rank-injective}
use Rattle.rmt_model.specs.BlockNumbers.{next_number, with_next}
use Rattle.rmt_model.specs.EntryLimits.{client_count, worker_count, client_limit, worker_limit, allocate_limit, commit_limit, numbers_limit, mutation_limit, drop_limit}
use Rattle.rmt_table_model.specs.Numbers.{Nexts, AreNexts, next_of, taken}
use Rattle.rmt_table_model.specs.Kept.{Placed, in_order, has_id, with_id}
use Rattle.rmt_table_model.specs.Nodes.{or_zero}
use Rattle.rmt_table_model.proofs.NumberLemmas.{next-has}
use Rattle.rmt_table_model.proofs.KeptLemmas.{in_order-kept}
use Rattle.rmt_events.specs.TableCalls.{kept_part}

absent : (xs : Nexts) (p : Option ℕ) → Each (λ y. rank p < rank y.0) xs → next_number xs p ≡ 0
absent [] p a = refl
absent (x ∷ xs) p a =
    let l = a.0 in
    let t : nat_eq (rank x.0) (rank p) ≡ false = grind (arith, nat_tests) in
    ap (λ (b : Bool). cond b x.1 (next_number xs p)) t ∙ absent xs p a.1

pub taken-same : (xs : Nexts) (p : Option ℕ) (n : ℕ) → AreNexts xs → n ≡ next_number xs p + 1 → taken xs p ≡ with_next xs p n
taken-same [] p n a e = ap (λ (m : ℕ). (p, m) ∷ []) (sym e)
taken-same (x ∷ xs) p n a e = go (nat_lt (rank x.0) (rank p)) refl (nat_eq (rank x.0) (rank p)) refl e (taken-same xs p n (record { rising = (let r = a.rising in r.1); begun = λ q m h. a.begun q m (inr h) }))
  where
    zero-at : rank p < rank x.0 → next_number xs p ≡ 0
    zero-at l = absent xs p (Each-all (λ y. rank p < rank y.0) xs (λ y h. let r = a.rising in let u = Each-at (λ (z : Option ℕ × ℕ). rank x.0 < rank z.0) xs y r.0 h in omega (arith, u, l)))

    go : (b : Bool) → nat_lt (rank x.0) (rank p) ≡ b → (c : Bool) → nat_eq (rank x.0) (rank p) ≡ c → n ≡ cond c x.1 (next_number xs p) + 1 → (n ≡ next_number xs p + 1 → taken xs p ≡ with_next xs p n)
        → cond b (x ∷ taken xs p) (cond c ((x.0, x.1 + 1) ∷ xs) ((p, 1) ∷ x ∷ xs)) ≡ cond b (x ∷ with_next xs p n) (cond c ((p, n) ∷ xs) ((p, n) ∷ x ∷ xs))
    go true t true u e f = absurd (grind (arith, nat_tests))
    go true t false u e f = ap (λ (ys : Nexts). x ∷ ys) (f e)
    go false t true u e f = ap (λ (q : Option ℕ). (q, x.1 + 1) ∷ xs) (rank-injective x.0 p (grind (arith, nat_tests))) ∙ ap (λ (m : ℕ). (p, m) ∷ xs) (sym e)
    go false t false u e f = let z = zero-at (grind (arith, nat_tests)) in ap (λ (m : ℕ). (p, m) ∷ x ∷ xs) (let w : 1 ≡ n = omega (arith, z, e) in w)

part-same : (p : Option ℕ) (digest : List ℕ) (ks : List Placed) → kept_part (map (λ k. k.kept) ks) p digest ≡ option_map (λ k. k.kept.part) (with_id p digest ks)
part-same p digest [] = refl
part-same p digest (k ∷ ks) = go (has_id p digest k) (part-same p digest ks)
  where
    go : (b : Bool) → kept_part (map (λ k. k.kept) ks) p digest ≡ option_map (λ k. k.kept.part) (with_id p digest ks)
        → cond b (Some k.kept.part) (kept_part (map (λ k. k.kept) ks) p digest) ≡ option_map (λ k. k.kept.part) (cond b (Some k) (with_id p digest ks))
    go true f = refl
    go false f = f

-- the part that an id is kept with
pub kept-same : (w : ℕ) (log : List Entry) (p : Option ℕ) (digest : List ℕ) → kept_part (kept w log) p digest ≡ option_map (λ k. k.kept.part) (with_id p digest (in_order w log))
kept-same w log p digest = ap (λ (ks : List Kept). kept_part ks p digest) (sym (in_order-kept w log)) ∙ part-same p digest (in_order w log)

-- ---- limits

found-number : (xs : Nexts) (p : Option ℕ) → next_number xs p ≡ or_zero (next_of xs p)
found-number [] p = refl
found-number (x ∷ xs) p = go (nat_eq (rank x.0) (rank p)) (found-number xs p)
  where
    go : (b : Bool) → next_number xs p ≡ or_zero (next_of xs p) → cond b x.1 (next_number xs p) ≡ or_zero (cond b (Some x.1) (next_of xs p))
    go true f = refl
    go false f = f

-- a limit on a new partition is met exactly where there is none
no-partition : (xs : Nexts) (p : Option ℕ) → AreNexts xs → nat_eq (next_number xs p) 0 ≡ is_none (next_of xs p)
no-partition xs p a = go (next_of xs p) refl
  where
    go : (o : Option ℕ) → next_of xs p ≡ o → nat_eq (next_number xs p) 0 ≡ is_none o
    go None e = ap (λ n. nat_eq n 0) (found-number xs p ∙ ap or_zero e)
    go (Some n) e =
        let b : 1 ≤ n = a.begun p n (next-has xs p n e) in
        ap (λ m. nat_eq m 0) (found-number xs p ∙ ap or_zero e) ∙ (let w : nat_eq n 0 ≡ false = grind (arith, nat_tests) in w)

-- ---- no limit is passed

none-where : {A : Type 0} (b : Bool) (x : A) (rest : Option A) → b ≡ false → rest ≡ None → cond b (Some x) rest ≡ None
none-where true x rest e f = absurd (cc)
none-where false x rest e f = f

below-limit : (limit n : ℕ) → n < limit → nat_le limit n ≡ false
below-limit limit n l = grind (arith, nat_tests)

client-within : (log : List Entry) → client_count log < 32768 → client_limit log ≡ None
client-within log l = none-where (nat_le 32768 (client_count log)) (limits.ClientEntries, client_count log) None (below-limit 32768 (client_count log) l) refl

pub worker-within : (log : List Entry) → worker_count log < 32768 → worker_limit log ≡ None
worker-within log l = none-where (nat_le 32768 (worker_count log)) (limits.WorkerEntries, worker_count log) None (below-limit 32768 (worker_count log) l) refl

pub drop-within : (xs : Nexts) (log : List Entry) (p : Option ℕ) → next_number xs p < 65536 → client_count log < 32768 → drop_limit xs log p ≡ None
drop-within xs log p l c = none-where (nat_le 65536 (next_number xs p)) (limits.Numbers, next_number xs p) (client_limit log) (below-limit 65536 (next_number xs p) l) (client-within log c)

pub allocate-within : (xs : Nexts) (log : List Entry) (p : Option ℕ) → AreNexts xs → (next_of xs p ≡ None → length xs < 1024) → next_number xs p < 65536 → client_count log < 32768 → allocate_limit xs log p ≡ None
allocate-within xs log p a few l c =
    none-where (nat_eq (next_number xs p) 0 && nat_le 1024 (length xs)) (limits.Partitions, length xs) (drop_limit xs log p) (ap (λ (b : Bool). b && nat_le 1024 (length xs)) (no-partition xs p a) ∙ known (next_of xs p) refl) (drop-within xs log p l c)
  where
    known : (o : Option ℕ) → next_of xs p ≡ o → (is_none (next_of xs p) && nat_le 1024 (length xs)) ≡ false
    known None e = ap (λ (o : Option ℕ). is_none o && nat_le 1024 (length xs)) e ∙ below-limit 1024 (length xs) (few e)
    known (Some n) e = ap (λ (o : Option ℕ). is_none o && nat_le 1024 (length xs)) e

pub commit-within : (log : List Entry) (held values : ℕ) → client_count log < 32768 → held + values ≤ 8388608 → commit_limit log held values ≡ None
commit-within log held values c l =
    none-where (nat_le 32768 (client_count log)) (limits.ClientEntries, client_count log) (cond (nat_lt 8388608 (held + values)) (Some (limits.Values, held)) None) (below-limit 32768 (client_count log) c)
    (none-where (nat_lt 8388608 (held + values)) (limits.Values, held) None (grind (arith, nat_tests)) refl)

numbers-within : (xs : Nexts) (log : List Entry) → ((p : Option ℕ) (m : ℕ) → Has xs (p, m) → m < 65536) → client_count log < 32768 → numbers_limit xs log ≡ None
numbers-within [] log f c = client-within log c
numbers-within (x ∷ xs) log f c = none-where (nat_le 65536 x.1) (limits.Numbers, x.1) (numbers_limit xs log) (below-limit 65536 x.1 (f x.0 x.1 (inl refl))) (numbers-within xs log (λ p m h. f p m (inr h)) c)

pub mutation-within : (xs : Nexts) (log : List Entry) → mutation_count log < 1024 → ((p : Option ℕ) (m : ℕ) → Has xs (p, m) → m < 65536) → client_count log < 32768 → mutation_limit xs log ≡ None
mutation-within xs log l f c = none-where (nat_le 1024 (mutation_count log)) (limits.Mutations, mutation_count log) (numbers_limit xs log) (below-limit 1024 (mutation_count log) l) (numbers-within xs log f c)
