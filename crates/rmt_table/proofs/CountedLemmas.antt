-- How many there are along a lawful log: of entries, of live names, of blocks and mutations.
use Rattle.std.proofs.Common.{◌≡◌, ℕ, ◌+◌, ◌≤◌, inl, inr, Bool, true, false, cond, not, List, [], ◌∷◌, length, filter, refl, ap, arith, ◌∙◌, nat_le}
use Rattle.std.proofs.lemmas.List.Sums.{sum_by-cons, length-filter, count_by-le-length}
use Rattle.rmt_values.specs.Rows.{Shape}
use Rattle.rmt_names.specs.Names.{Name, Covers, covers, block_name}
use Rattle.rmt_entries.specs.declared.entry.Entry.{Entry}
use Rattle.rmt_entries.specs.declared.entry.Entry.TheVariants.{Get, Merge, Mutate, Mutation, DropRange}
use Rattle.rmt_model.specs.Words.{Has}
use Rattle.rmt_model.specs.Live.{before, inserted, placed, in_drop, live}
use Rattle.rmt_model.specs.Lawful.{Merges, IsMutate, Lawful, gets_block_of, block_count, is_mutation, mutation_count, mutations_through}
use Rattle.rmt_model.proofs.LiveLaws.{Tight, tight, supplants-merge, supplants-mutate, source-live, covers-holds}
use Rattle.rmt_model.specs.EntryLimits.{is_client, client_count, worker_count}

-- ---- entries

clients-next : (e : Entry) (log : List Entry) → client_count (e ∷ log) ≡ cond (is_client e) 1 0 + client_count log
clients-next e log = sum_by-cons (λ x. cond (is_client x) 1 0) e log

workers-next : (e : Entry) (log : List Entry) → worker_count (e ∷ log) ≡ cond (not (is_client e)) 1 0 + worker_count log
workers-next e log = sum_by-cons (λ x. cond (not (is_client x)) 1 0) e log

-- each entry is of a client or of background work
pub all-entries : (log : List Entry) → length log ≡ client_count log + worker_count log
all-entries [] = refl
all-entries (e ∷ log) = go (is_client e) (clients-next e log) (workers-next e log) (all-entries log)
  where
    go : (b : Bool) → client_count (e ∷ log) ≡ cond b 1 0 + client_count log → worker_count (e ∷ log) ≡ cond (not b) 1 0 + worker_count log → length log ≡ client_count log + worker_count log
        → length (e ∷ log) ≡ client_count (e ∷ log) + worker_count (e ∷ log)
    go true c w f = omega (arith, c, w, f)
    go false c w f = omega (arith, c, w, f)

-- ---- blocks and mutations

pub blocks-most : (log : List Entry) (a : Name) → block_count log a ≤ length log
blocks-most log a = count_by-le-length (gets_block_of a) log

pub mutations-most : (log : List Entry) → mutation_count log ≤ length log
mutations-most log = count_by-le-length is_mutation log

pub through-most : (log : List Entry) (i : ℕ) → mutations_through log i ≤ length log
through-most [] i = omega arith
through-most (e ∷ log) i = go (nat_le (length log) i) (mutations-most (e ∷ log)) (through-most log i)
  where
    go : (b : Bool) → mutation_count (e ∷ log) ≤ length (e ∷ log) → mutations_through log i ≤ length log → cond b (mutation_count (e ∷ log)) (mutations_through log i) ≤ length (e ∷ log)
    go true m f = m
    go false m f = omega (arith, f)

-- ---- live names

inserted-length : (new : Name) (xs : List Name) → length (inserted new xs) ≡ length xs + 1
inserted-length new [] = refl
inserted-length new (x ∷ xs) = go (before x new) (inserted-length new xs)
  where
    go : (b : Bool) → length (inserted new xs) ≡ length xs + 1 → length (cond b (x ∷ inserted new xs) (new ∷ x ∷ xs)) ≡ length (x ∷ xs) + 1
    go true f = omega (arith, f)
    go false f = omega arith

kept-most : (keep : Name → Bool) (xs : List Name) → length (filter keep xs) ≤ length xs
kept-most keep xs = let w = length-filter keep xs in let u = count_by-le-length keep xs in omega (arith, w, u)

kept-fewer : (new : Name) (xs : List Name) (x : Name) → Has xs x → covers new x ≡ true → length (filter (λ a. not (covers new a)) xs) + 1 ≤ length xs
kept-fewer new [] x h t = absurd h
kept-fewer new (y ∷ ys) x (inl e) t =
    let u : not (covers new y) ≡ false = ap (λ (a : Name). not (covers new a)) e ∙ ap not t in
    let w = kept-most (λ a. not (covers new a)) ys in
    let q : length (filter (λ a. not (covers new a)) (y ∷ ys)) ≡ length (filter (λ a. not (covers new a)) ys) = ap (λ (b : Bool). length (cond b (y ∷ filter (λ a. not (covers new a)) ys) (filter (λ a. not (covers new a)) ys))) u in
    omega (arith, w, q)
kept-fewer new (y ∷ ys) x (inr h) t = go (not (covers new y)) (kept-fewer new ys x h t)
  where
    go : (b : Bool) → length (filter (λ a. not (covers new a)) ys) + 1 ≤ length ys → length (cond b (y ∷ filter (λ a. not (covers new a)) ys) (filter (λ a. not (covers new a)) ys)) + 1 ≤ length (y ∷ ys)
    go true f = omega (arith, f)
    go false f = omega (arith, f)

placed-most : (new : Name) (xs : List Name) → length (placed new xs) ≤ length xs + 1
placed-most new xs = let w = inserted-length new (filter (λ a. not (covers new a)) xs) in let u = kept-most (λ a. not (covers new a)) xs in omega (arith, w, u)

placed-over : (new : Name) (xs : List Name) (x : Name) → Has xs x → Covers new x → length (placed new xs) ≤ length xs
placed-over new xs x h c = let w = inserted-length new (filter (λ a. not (covers new a)) xs) in let u = kept-fewer new xs x h (covers-holds new x c) in omega (arith, w, u)

merge-over : (log : List Entry) → Tight log → (a b : Name) (rest : List Name) (new : Name) (count : ℕ) → Merges log a b rest new count → length (placed new (live log)) ≤ length (live log)
merge-over log t a b rest new count m =
    let here = source-live log t a b rest new count m a (inl refl) in
    let s = supplants-merge log t a b rest new count m in
    let p = ap (λ (x : Name). x.partition) m.name in
    let q = ap (λ (x : Name). x.min) m.name in
    let z = s.sized in
    let y = t.sized a here in
    placed-over new (live log) a here (s.over a here (record { partition = p; low = omega (arith, q, y); high = omega (arith, q, z) }))

mutate-over : (log : List Entry) → Tight log → (old new : Name) (upto count mcount : ℕ) → IsMutate log old new upto count mcount → length (placed new (live log)) ≤ length (live log)
mutate-over log t old new upto count mcount m =
    let s = supplants-mutate log t old new upto count mcount m in
    let p = ap (λ (x : Name). x.partition) m.name in
    let q = ap (λ (x : Name). x.min) m.name in
    let k = ap (λ (x : Name). x.max) m.name in
    let y = t.sized old m.is_live in
    placed-over new (live log) old m.is_live (s.over old m.is_live (record { partition = p; low = omega (arith, q, y); high = omega (arith, k, y) }))

-- no more names are live than clients put entries
pub live-most : (schema : Shape) (log : List Entry) → Lawful schema log → length (live log) ≤ client_count log
live-most schema [] l = omega arith
live-most schema (Get p n digest source need ∷ log) l =
    let c = clients-next (Get p n digest source need) log in
    let w = placed-most (block_name p n) (live log) in
    let f = live-most schema log l.0 in
    omega (arith, c, w, f)
live-most schema (Merge new [] count ∷ log) l = absurd l.1
live-most schema (Merge new (a ∷ []) count ∷ log) l = absurd l.1
live-most schema (Merge new (a ∷ b ∷ rest) count ∷ log) l =
    let c = clients-next (Merge new (a ∷ b ∷ rest) count) log in
    let w = merge-over log (tight schema log l.0) a b rest new count l.1 in
    let f = live-most schema log l.0 in
    omega (arith, c, w, f)
live-most schema (Mutate old new upto count mcount ∷ log) l =
    let c = clients-next (Mutate old new upto count mcount) log in
    let w = mutate-over log (tight schema log l.0) old new upto count mcount l.1 in
    let f = live-most schema log l.0 in
    omega (arith, c, w, f)
live-most schema (Mutation id numbers command ∷ log) l =
    let c = clients-next (Mutation id numbers command) log in
    let f = live-most schema log l.0 in
    omega (arith, c, f)
live-most schema (DropRange p n ∷ log) l =
    let c = clients-next (DropRange p n) log in
    let w = kept-most (λ a. not (in_drop p n a)) (live log) in
    let f = live-most schema log l.0 in
    omega (arith, c, w, f)
