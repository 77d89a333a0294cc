-- The entries that the calls of a sound table put into its log are in range.
use Rattle.std.proofs.Common.{◌≡◌, ℕ, ◌<◌, ◌≤◌, ◌^◌, ◌⊎◌, inl, inr, List, ◌∷◌, ◌++◌, length, refl, ap, subst, arith}
use Rattle.std.proofs.lemmas.List.{length-append}
use Rattle.std.specs.declared.option.Option.{Option}
use Rattle.std.specs.declared.option.Option.TheVariants.{Some, None}
use Rattle.rmt_values.specs.declared.checked_mutation.CheckedMutation.{CheckedMutation}
use Rattle.rmt_names.specs.Names.{Name, IsName, merged_name}
use Rattle.rmt_block.specs.Blocks.{IsId}
use Rattle.rmt_entries.specs.declared.entry.Entry.{Entry}
use Rattle.rmt_entries.specs.declared.entry.Entry.TheVariants.{Get, Merge, Mutate, Mutation}
use Rattle.rmt_entries.specs.EntryBytes.{CommandInRange, EntryInRange}
use Rattle.rmt_model.specs.Words.{Has}
use Rattle.rmt_model.specs.Live.{made, live}
use Rattle.rmt_model.specs.Lawful.{Used, IsMutationWith, AreNeighbours, entry_at, block_count, mutation_count, mutations_through}
use Rattle.rmt_model.proofs.Lists.{Has-left, Has-right}
use Rattle.rmt_model.proofs.Drops.{entry-below}
use Rattle.rmt_model.proofs.VersionLaws.{live-made, made-used, made-sized}
use Rattle.rmt_laws.proofs.ContentLaws.{mutation-of-made}
use Rattle.rmt_znodes.specs.Znodes.{IsPartition}
use Rattle.rmt_table_model.specs.Numbers.{IsLocked}
use Rattle.rmt_table_model.specs.Tables.{TableView, IsSound}
use Rattle.rmt_table_model.specs.Changes.{after_merge, after_mutate, MayMerge, MayMutateOne}
use Rattle.rmt_table_model.proofs.SoundLemmas.{sound-merge, sound-mutate}
use Rattle.rmt_table.proofs.LevelLemmas.{level-of-made}
use Rattle.rmt_table.proofs.CountedLemmas.{all-entries, blocks-most, through-most, live-most}
use Rattle.rmt_table.proofs.RangeLemmas.{get-in-range, mutation-in-range, merge-in-range, mutate-in-range}

-- a log has at most so many entries
pub sound-length : (v : TableView) → IsSound v → length v.log ≤ 65536
sound-length v s = let e = all-entries v.log in let c = s.within.client_entries in let w = s.within.worker_entries in omega (arith, e, c, w)

-- a number that is used or locked is below the limit, and its partition in its width
pub number-fits : (v : TableView) → IsSound v → (p : Option ℕ) (n : ℕ) → Used v.log p n ⊎ IsLocked v.holders p n → n < 65536
number-fits v s p n u = let r = s.given p n u in let m = s.within.numbers p r.0 r.1 in let l = r.2 in omega (arith, m, l)

pub partition-fits : (v : TableView) → IsSound v → (p : Option ℕ) (n : ℕ) → Used v.log p n ⊎ IsLocked v.holders p n → IsPartition p
partition-fits v s p n u = let r = s.given p n u in s.partitions p r.0 r.1

-- each name that was made is in range
pub made-name : (v : TableView) → IsSound v → (a : Name) → Has (made v.log) a → IsName a
made-name v s a h =
    let u = made-used v.schema v.log a s.lawful h in
    let n = number-fits v s a.partition a.max (inl u) in
    let l = level-of-made v.schema v.log s.lawful a h in
    let k = sound-length v s in
    record {
      ordered = made-sized v.schema v.log a s.lawful h;
      partition = partition-fits v s a.partition a.max (inl u);
      max = omega (arith, n);
      level = omega (arith, l, k);
      mutation = mutation (mutation-of-made v.schema v.log a s.lawful h);
    }
  where
    mutation : (a.mutation ≡ 0) ⊎ Used v.log a.partition a.mutation → a.mutation < 2 ^ 32
    mutation (inl e) = omega (arith, e)
    mutation (inr u) = let n = number-fits v s a.partition a.mutation (inl u) in omega (arith, n)

pub live-name : (v : TableView) → IsSound v → (a : Name) → Has (live v.log) a → IsName a
live-name v s a h = made-name v s a (live-made v.log a h)

-- neighbours are live, and no more than clients put entries
neighbour-live : (log : List Entry) (names : List Name) → AreNeighbours log names → (a : Name) → Has names a → Has (live log) a
neighbour-live log names n a h = subst (λ (xs : List Name). Has xs a) n.among (Has-right n.left (names ++ n.right) a (Has-left names n.right a h))

neighbours-most : (v : TableView) → IsSound v → (names : List Name) → AreNeighbours v.log names → length names ≤ 32768
neighbours-most v s names n =
    let e : length (n.left ++ (names ++ n.right)) ≡ length (live v.log) = ap (λ (xs : List Name). length xs) n.among in
    let f = length-append n.left (names ++ n.right) in
    let g = length-append names n.right in
    let m = live-most v.schema v.log s.lawful in
    let c = s.within.client_entries in
    omega (arith, e, f, g, m, c)

pub commit-range : (v : TableView) → IsSound v → (p : Option ℕ) (n : ℕ) (digest : List ℕ) (source need : ℕ) → IsId (record { partition = p; digest = digest }) → IsLocked v.holders p n → 1 ≤ source → source ≤ 8 → need ≤ 8 → ¬ (need ≡ 1)
    → EntryInRange (Get p n digest source need)
commit-range v s p n digest source need id k from to most not_1 = let w = number-fits v s p n (inr k) in get-in-range p n digest source need id (omega (arith, w)) from to most not_1

pub mutation-range : (v : TableView) → IsSound v → (command : CheckedMutation) → CommandInRange command → EntryInRange (Mutation (mutation_count v.log) v.next command)
mutation-range v s command c =
    let i = s.within.mutations in
    mutation-in-range (mutation_count v.log) v.next command (omega (arith, i)) s.within.partitions s.nexts.rising s.partitions (λ p m h. let w = s.within.numbers p m h in omega (arith, w)) c

pub merge-range : (v : TableView) → IsSound v → (a b : Name) (rest : List Name) → MayMerge a b rest v → EntryInRange (Merge (merged_name a (b ∷ rest)) (a ∷ b ∷ rest) (block_count v.log (merged_name a (b ∷ rest))))
merge-range v s a b rest m =
    let c = blocks-most v.log (merged_name a (b ∷ rest)) in
    let k = sound-length v s in
    merge-in-range (merged_name a (b ∷ rest)) (a ∷ b ∷ rest) (block_count v.log (merged_name a (b ∷ rest)))
    (made-name (after_merge a (b ∷ rest) v) (sound-merge v s a b rest m) (merged_name a (b ∷ rest)) (inl refl))
    (λ x h. live-name v s x (neighbour-live v.log (a ∷ b ∷ rest) m.neighbours x h)) (omega (arith, c, k)) (omega arith)
    (neighbours-most v s (a ∷ b ∷ rest) m.neighbours)

pub mutate-range : (v : TableView) → IsSound v → (old : Name) (number upto : ℕ) → MayMutateOne old number upto v → EntryInRange (Mutate old (record old { mutation = number }) upto (block_count v.log old) (mutations_through v.log upto))
mutate-range v s old number upto m =
    let c = blocks-most v.log old in
    let k = sound-length v s in
    let t = through-most v.log upto in
    let u = upto-below (entry_at v.log upto) refl m.at in
    mutate-in-range old (record old { mutation = number }) upto (block_count v.log old) (mutations_through v.log upto) (live-name v s old m.is_live)
    (made-name (after_mutate old number upto v) (sound-mutate v s old number upto m) (record old { mutation = number }) (inl refl))
    (omega (arith, u, k)) (omega (arith, c, k)) (omega (arith, t, k))
  where
    upto-below : (o : Option Entry) → entry_at v.log upto ≡ o → IsMutationWith o old.partition number → upto < length v.log
    upto-below None e h = absurd h
    upto-below (Some x) e h = entry-below v.log upto x e
