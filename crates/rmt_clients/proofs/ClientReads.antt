-- What is read of fair names, with what is pending, is the plain rows where each entry of a client is marked.
use Rattle.std.proofs.Common.{◌≡◌, ℕ, zero, suc, ◌+◌, ◌-◌, ◌<◌, ◌≤◌, inl, inr, ◌&&◌, Bool, true, false, cond, List, [], ◌∷◌, ◌++◌, refl, sym, ap, arith, ◌∙◌, nat_lt, nat_le}
use Rattle.std.proofs.lemmas.Bool.Decides.{nat_tests}
use Rattle.std.specs.List.{filter_map, cons_option}
use Rattle.std.specs.declared.option.Option.{Option}
use Rattle.std.specs.declared.option.Option.TheVariants.{Some, None}
use Rattle.rmt_values.specs.Rows.{Shape, in_key_order, key_cmp}
use Rattle.rmt_values.specs.Order.{SameBag, in_order, tally}
use Rattle.rmt_values.proofs.Sorting.{tally-in_order}
use Rattle.rmt_names.specs.Names.{Name, data_version}
use Rattle.rmt_entries.specs.declared.entry.Entry.{Entry}
use Rattle.rmt_model.specs.Words.{Has}
use Rattle.rmt_model.specs.Live.{live, made}
use Rattle.rmt_model.specs.Lawful.{Lawful}
use Rattle.rmt_model.specs.Fair.{AreFair}
use Rattle.rmt_model.specs.Laws.{MutatedAt}
use Rattle.rmt_model.specs.Content.{Row, Blocks, changed, has_block, block_rows, joined, content, rows, snapshot}
use Rattle.rmt_model.proofs.Lists.{Each-at}
use Rattle.rmt_model.proofs.VersionLaws.{live-made, made-sized, pending-above-max}
use Rattle.rmt_laws.proofs.PlainRows.{total, total-same, present, of_name, balance}
use Rattle.rmt_laws.proofs.Headline.{weight, reads-plain-rows}
use Rattle.rmt_laws.proofs.TwoChanges.{PartsAt, in-two, filter_map-joins, filter_map-twice}
use Rattle.rmt_clients.specs.Clients.{ClientsMarked}
use Rattle.rmt_clients.proofs.FairBlocks.{names-balance}

-- ---- what is read of them

-- what a filter_map of a list is, under a weighing
tally-append : (f : Row → ℕ) (xs ys : List Row) → tally f (xs ++ ys) ≡ tally f xs + tally f ys
tally-append f [] ys = omega arith
tally-append f (x ∷ xs) ys = let h = tally-append f xs ys in omega (arith, h)

tally-joined : (f : Row → ℕ) (g : Row → Option Row) (of : ℕ → List Row) (low k : ℕ) → tally f (filter_map g (joined of low k)) ≡ total (λ n. tally f (filter_map g (of n))) low k
tally-joined f g of low zero = refl
tally-joined f g of low (suc k) =
    let a = filter_map-joins g (of low) (joined of (low + 1) k) in
    let b = tally-append f (filter_map g (of low)) (filter_map g (joined of (low + 1) k)) in
    let c = tally-joined f g of (low + 1) k in
    let d = ap (tally f) a in
    omega (arith, b, c, d)

abbrev row_weight : (Row → ℕ) → Option Row → ℕ
row_weight f None = 0
row_weight f (Some r) = f r

tally-filter_map : (f : Row → ℕ) (g : Row → Option Row) (xs : List Row) → tally f (filter_map g xs) ≡ tally (λ x. row_weight f (g x)) xs
tally-filter_map f g [] = refl
tally-filter_map f g (x ∷ xs) = go (g x) (tally-filter_map f g xs)
  where
    go : (o : Option Row) → tally f (filter_map g xs) ≡ tally (λ x. row_weight f (g x)) xs → tally f (cons_option o (filter_map g xs)) ≡ row_weight f o + tally (λ x. row_weight f (g x)) xs
    go None rest = omega (arith, rest)
    go (Some r) rest = ap (λ n. f r + n) rest

-- the order by key changes no weighing
tally-in-order : (schema : Shape) (f : Row → ℕ) (g : Row → Option Row) (xs : List Row) → tally f (filter_map g (in_key_order schema xs)) ≡ tally f (filter_map g xs)
unfolding in_key_order
tally-in-order schema f g xs =
    tally-filter_map f g (in_order (key_cmp schema.key) xs)
    ∙ (tally-in_order (key_cmp schema.key) (λ x. row_weight f (g x)) xs ∙ sym (tally-filter_map f g xs))

-- a part, read with what is pending
module _ (schema : Shape) (log : List Entry) (l : Lawful schema log) (blocks : Blocks) (f : Row → ℕ) where
  read-part : (a : Name) → Has (made log) a → tally f (filter_map (changed log a.partition (λ k. nat_lt (data_version a) k)) (content schema log blocks a)) ≡ of_name log (weight log blocks f) a
  read-part a h =
      tally-in-order schema f pending (joined each a.min (a.max + 1 - a.min))
      ∙ (tally-joined f pending each a.min (a.max + 1 - a.min)
      ∙ total-same (λ n. tally f (filter_map pending (each n))) (present log (weight log blocks f) a.partition) a.min (a.max + 1 - a.min) (λ n i j. one n i (let s = made-sized schema log a l h in omega arith)))
    where
      pending : Row → Option Row
      pending = changed log a.partition (λ k. nat_lt (data_version a) k)

      each : ℕ → List Row
      each n = block_rows log blocks a.partition (λ k. nat_lt n k && nat_le k a.mutation) n

      parts : (n : ℕ) → a.min ≤ n → n ≤ a.max → (k : ℕ) → MutatedAt log a.partition k → PartsAt (λ x. nat_lt n x && nat_le x a.mutation) (λ x. nat_lt (data_version a) x) (λ x. nat_lt n x) (data_version a) k
      parts n i j k m = record { low = λ q. (low q, past q); high = λ q. (none q, whole q) }
        where
          low : k ≤ data_version a → (nat_lt n k && nat_le k a.mutation) ≡ nat_lt n k
          low q = grind (arith, nat_tests)

          past : k ≤ data_version a → nat_lt (data_version a) k ≡ false
          past q = grind (arith, nat_tests)

          none : data_version a < k → (nat_lt n k && nat_le k a.mutation) ≡ false
          none q = grind (arith, nat_tests)

          whole : data_version a < k → nat_lt (data_version a) k ≡ nat_lt n k
          whole q = let u = pending-above-max schema log l a h k m q in grind (arith, nat_tests)

      one : (n : ℕ) → a.min ≤ n → n ≤ a.max → tally f (filter_map pending (each n)) ≡ present log (weight log blocks f) a.partition n
      one n i j = go (has_block log a.partition n)
        where
          go : (b : Bool) → tally f (filter_map pending (cond b (filter_map (changed log a.partition (λ k. nat_lt n k && nat_le k a.mutation)) (blocks a.partition n)) [])) ≡ cond b (weight log blocks f a.partition n) 0
          go false = refl
          go true = ap (tally f) (filter_map-twice pending (changed log a.partition (λ k. nat_lt n k && nat_le k a.mutation)) (changed log a.partition (λ k. nat_lt n k)) (in-two schema a.partition (λ x. nat_lt n x && nat_le x a.mutation) (λ x. nat_lt (data_version a) x) (λ x. nat_lt n x) (data_version a) log l (parts n i j)) (blocks a.partition n))

  read-all : (names : List Name) → ((a : Name) → Has names a → Has (made log) a) → tally f (snapshot schema log blocks names) ≡ tally (of_name log (weight log blocks f)) names
  read-all [] h = refl
  read-all (a ∷ names) h =
      let x = tally-append f (filter_map (changed log a.partition (λ k. nat_lt (data_version a) k)) (content schema log blocks a)) (snapshot schema log blocks names) in
      let y = read-part a (h a (inl refl)) in
      let z = read-all names (λ b i. h b (inr i)) in
      omega (arith, x, y, z)

-- parts whose names are fair where the clients' entries are known, read with what is pending, are the plain rows
pub reads-plain-names : (schema : Shape) (log : List Entry) → Lawful schema log → (marked : ℕ → Bool) (names : List Name) → AreFair log marked names → ClientsMarked log marked → (blocks : Blocks) → SameBag (snapshot schema log blocks names) (rows log blocks)
reads-plain-names schema log l marked names fair clients blocks f =
    read-all schema log l blocks f names (λ a h. Each-at (λ x. Has (made log) x) names a fair.made_here h)
    ∙ (names-balance schema log l marked names fair clients (weight log blocks f)
    ∙ (sym (balance schema log l (weight log blocks f))
    ∙ (sym (read-all schema log l blocks f (live log) (λ a h. live-made log a h))
    ∙ reads-plain-rows schema log l blocks f)))
