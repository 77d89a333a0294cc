-- The parts of a cluster have no more rows than its table has values.
use Rattle.std.proofs.Common.{◌≡◌, ℕ, zero, suc, ◌+◌, ◌-◌, ◌<◌, ◌≤◌, ◌^◌, ◌&&◌, inl, inr, Bool, true, false, cond, List, [], ◌∷◌, length, map, filter_map, Option, Some, None, refl, ap, arith, nat_eq, nat_lt, nat_le, length-append}
use Rattle.std.specs.List.{cons_option}
use Rattle.std.proofs.lemmas.Bool.Decides.{nat_tests}
use Rattle.std.proofs.lemmas.Nat.{mul-le}
use Rattle.rmt_values.specs.Rows.{Shape}
use Rattle.rmt_values.specs.Schemas.{IsSchema}
use Rattle.rmt_names.specs.Names.{Name, rank}
use Rattle.rmt_entries.specs.declared.entry.Entry.{Entry}
use Rattle.rmt_model.specs.Words.{Has}
use Rattle.rmt_model.specs.Content.{Row, Blocks, changed, has_block, block_rows, joined, content}
use Rattle.rmt_model.specs.CopiedParts.{Copied}
use Rattle.rmt_model.proofs.Lists.{Each-at, Each-all}
use Rattle.rmt_part.specs.Lineages.{PartValue}
use Rattle.rmt_part.specs.CopiedPart.{copied}
use Rattle.rmt_compact.proofs.SentLemmas.{length-in_key_order}
use Rattle.rmt_replica.specs.Replicas.{ReplicaView}
use Rattle.rmt_replica.specs.SeenReplica.{shown}
use Rattle.rmt_supply.specs.PartSources.{HasSmallParts, AreSmall}
use Rattle.rmt_events.specs.Views.{Replica}
use Rattle.rmt_events.specs.Clusters.{Accepted, Cluster, rows_at, accepted, values_in}
use Rattle.rmt_events.specs.Whole.{Follows, IsWhole}
use Rattle.rmt_events.specs.declared.event.Event.{Event}
use Rattle.rmt_events.specs.declared.reply.Reply.{Reply}
use Rattle.rmt_events.proofs.Converge.{part-content}
use Rattle.rmt_state.specs.States.{StateView, cluster_of}
use Rattle.rmt_cluster.specs.Attempts.{OpenAttempts}
use Rattle.rmt_cluster.specs.Clusters.{IsCluster}

-- ---- numbers in a range

-- the sum over k numbers from low on
abbrev total : (ℕ → ℕ) → ℕ → ℕ → ℕ
total size low zero = 0
total size low (suc k) = size low + total size (low + 1) k

joined-few : (of : ℕ → List Row) (size : ℕ → ℕ) (low k : ℕ) → ((n : ℕ) → length (of n) ≤ size n) → length (joined of low k) ≤ total size low k
joined-few of size low zero h = omega arith
joined-few of size low (suc k) h =
    let l = length-append (of low) (joined of (low + 1) k) in
    let a = h low in
    let i = joined-few of size (low + 1) k h in
    omega (arith, l, a, i)

total-zero : (low k : ℕ) → total (λ n. 0) low k ≡ 0
total-zero low zero = refl
total-zero low (suc k) = let i = total-zero (low + 1) k in omega (arith, i)

total-two : (f g h : ℕ → ℕ) (low k : ℕ) → ((n : ℕ) → f n ≤ g n + h n) → total f low k ≤ total g low k + total h low k
total-two f g h low zero e = omega arith
total-two f g h low (suc k) e =
    let a = e low in
    let i = total-two f g h (low + 1) k e in
    omega (arith, a, i)

-- so much at one number
abbrev at_number : ℕ → ℕ → ℕ → ℕ
at_number m size n = cond (nat_eq m n) size 0

past : (m size low k : ℕ) → m < low → total (at_number m size) low k ≡ 0
past m size low zero l = refl
past m size low (suc k) l = go (nat_eq m low) refl (past m size (low + 1) k (omega (arith, l)))
  where
    go : (b : Bool) → nat_eq m low ≡ b → total (at_number m size) (low + 1) k ≡ 0 → cond b size 0 + total (at_number m size) (low + 1) k ≡ 0
    go true e i = absurd (grind (arith, nat_tests))
    go false e i = omega (arith, i)

once : (m size low k : ℕ) → total (at_number m size) low k ≤ size
once m size low zero = omega arith
once m size low (suc k) = go (nat_eq m low) refl (once m size (low + 1) k)
  where
    go : (b : Bool) → nat_eq m low ≡ b → total (at_number m size) (low + 1) k ≤ size → cond b size 0 + total (at_number m size) (low + 1) k ≤ size
    go true e i =
        let f : m ≡ low = grind (arith, nat_tests) in
        let p = past m size (low + 1) k (omega (arith, f)) in
        omega (arith, p)
    go false e i = omega (arith, i)

-- ---- accepted blocks

-- how many rows they have
abbrev rows_in : List Accepted → ℕ
rows_in [] = 0
rows_in (b ∷ bs) = length b.rows + rows_in bs

-- each of them counts at one number at most
blocks-few : (bs : List Accepted) (p : Option ℕ) (low k : ℕ) → total (λ n. length (rows_at bs p n)) low k ≤ rows_in bs
blocks-few [] p low k = let z = total-zero low k in omega (arith, z)
blocks-few (b ∷ bs) p low k =
    let t = total-two (λ n. length (rows_at (b ∷ bs) p n)) (at_number b.number (length b.rows)) (λ n. length (rows_at bs p n)) low k
    (λ n. one (nat_eq (rank b.partition) (rank p)) (nat_eq b.number n) b.rows (rows_at bs p n)) in
    let o = once b.number (length b.rows) low k in
    let i = blocks-few bs p low k in
    omega (arith, t, o, i)
  where
    one : (u v : Bool) (xs ys : List Row) → length (cond (u && v) xs ys) ≤ cond v (length xs) 0 + length ys
    one true true xs ys = omega arith
    one true false xs ys = omega arith
    one false true xs ys = omega arith
    one false false xs ys = omega arith

-- each row has a value at least
values-enough : (schema : Shape) (bs : List Accepted) → 1 ≤ length schema.columns → rows_in bs ≤ values_in schema bs
values-enough schema [] c = omega arith
values-enough schema (b ∷ bs) c =
    let m = mul-le (length b.rows) 1 (length b.rows) (length schema.columns) (omega arith) c in
    let i = values-enough schema bs c in
    omega (arith, m, i)

-- ---- parts

passing-few : {X Y : Type 0} (f : X → Option Y) (xs : List X) → length (filter_map f xs) ≤ length xs
passing-few {Y = Y} f [] = omega arith
passing-few {Y = Y} f (x ∷ xs) = go (f x) (passing-few f xs)
  where
    go : (o : Option Y) → length (filter_map f xs) ≤ length xs → length (cons_option o (filter_map f xs)) ≤ suc (length xs)
    go None h = omega (arith, h)
    go (Some y) h = omega (arith, h)

block-few : (log : List Entry) (blocks : Blocks) (p : Option ℕ) (passes : ℕ → Bool) (n : ℕ) → length (block_rows log blocks p passes n) ≤ length (blocks p n)
block-few log blocks p passes n = go (has_block log p n) (passing-few (changed log p passes) (blocks p n))
  where
    go : (b : Bool) → length (filter_map (changed log p passes) (blocks p n)) ≤ length (blocks p n) → length (cond b (filter_map (changed log p passes) (blocks p n)) []) ≤ length (blocks p n)
    go true h = h
    go false h = omega arith

content-few : (schema : Shape) (log : List Entry) (bs : List Accepted) (a : Name) → length (content schema log (rows_at bs) a) ≤ rows_in bs
content-few schema log bs a =
    let of : ℕ → List Row = λ n. block_rows log (rows_at bs) a.partition (λ k. nat_lt n k && nat_le k a.mutation) n in
    let l = length-in_key_order schema (joined of a.min (a.max + 1 - a.min)) in
    let j = joined-few of (λ n. length (rows_at bs a.partition n)) a.min (a.max + 1 - a.min) (λ n. block-few log (rows_at bs) a.partition (λ k. nat_lt n k && nat_le k a.mutation) n) in
    let b = blocks-few bs a.partition a.min (a.max + 1 - a.min) in
    omega (arith, l, j, b)

part-few : (s : Cluster) (x : Replica) (part : Copied) → IsWhole s → 1 ≤ length s.table.schema.columns → Has s.replicas x → Has x.parts part → length part.rows ≤ 8388608
part-few s x part w c h k =
    let e = ap length (part-content s x part w (Each-at (Follows s) s.replicas x w.follow h) k).1 in
    let a = content-few s.table.schema s.table.log (accepted s) part.name in
    let v = values-enough s.table.schema (accepted s) c in
    let t = w.counted in
    let m = w.table.values in
    omega (arith, e, a, v, t, m)

has-mapped : {A B : Type 0} (f : A → B) (xs : List A) (x : A) → Has xs x → Has (map f xs) (f x)
has-mapped f [] x h = absurd h
has-mapped f (y ∷ xs) x (inl e) = inl (ap f e)
has-mapped f (y ∷ xs) x (inr h) = inr (has-mapped f xs x h)

-- the parts of a replica of a cluster are small
pub small-parts : (s : Cluster) (r : ReplicaView) → IsWhole s → IsSchema s.table.schema → Has s.replicas (shown r) → HasSmallParts r
small-parts s r w c h = Each-all (λ part. length part.body.rows < 2 ^ 32) r.parts one
  where
    one : (part : PartValue) → Has r.parts part → length part.body.rows < 2 ^ 32
    one part k = let m = part-few s (shown r) (copied part) w (IsSchema.has_columns c) h (has-mapped copied r.parts part k) in omega (arith, m)

-- so are those of each replica of a state
pub are-small : (s : StateView) (a : OpenAttempts) (events : List (Event × Reply)) → IsCluster s a events → IsSchema s.tree.schema → AreSmall s.replicas
are-small s a events c w r h = small-parts (cluster_of s a.made a.open_ones events) r c.whole w (has-mapped shown s.replicas r h)
