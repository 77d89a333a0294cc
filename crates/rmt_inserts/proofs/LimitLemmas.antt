-- How many partitions there are, and which limit a number would pass.
use Rattle.std.proofs.Common.{◌≡◌, ◌≢◌, ℕ, inl, inr, ◌<◌, ◌≤◌, ◌&&◌, Bool, true, false, cond, is_some, List, [], ◌∷◌, length, map, codes, nat_eq, nat_le, Result, Ok, Err, IfOk, refl, sym, ap, subst, arith, ◌∙◌}
use Rattle.std.proofs.lemmas.Bool.Decides.{nat_tests}
use Rattle.std.specs.Option.{option_map, unwrap_or}
use Rattle.std.specs.declared.option.Option.{Option}
use Rattle.std.specs.declared.option.Option.TheVariants.{Some, None}
use Rattle.rmt_values.specs.declared.limit.Limit.TheVariants as limits
use Rattle.rmt_names.specs.Names.{rank}
use Rattle.rmt_names.specs.Texts.{partition_text}
use Rattle.rmt_model.specs.BlockNumbers.{next_number}
use Rattle.rmt_model.specs.Words.{Has, Pairwise}
use Rattle.rmt_model.proofs.Lists.{Each-at, Each-all}
use Rattle.rmt_paths.specs.Paths.{Names, last_name}
use Rattle.rmt_tree.specs.Trees.{Node, TreeView, node_at, children}
use Rattle.rmt_tree.specs.Shapes.{IsSound, holds}
use Rattle.rmt_znodes.specs.declared.znode.Znode.{Znode}
use Rattle.rmt_znodes.specs.declared.znode.Znode.TheVariants.{Numbers, Partition}
use Rattle.rmt_znodes.specs.Znodes.{znode_path, IsPartition}
use Rattle.rmt_znodes.specs.ZnodeStates.{state_of}
use Rattle.rmt_znodes.proofs.ZnodeLemmas.{znode_path-injective}
use Rattle.rmt_table_model.specs.Numbers.{Nexts, Holders, next_of, AreNexts}
use Rattle.rmt_table_model.specs.Inserts.{HasNumbers}
use Rattle.rmt_table_model.specs.Nodes.{counting, next_states, lock_states}
use Rattle.rmt_table_model.proofs.NumberLemmas.{number-is, next-is, next-has, next-none}
use Rattle.rmt_inserts.specs.Numbers.{number_limit, partitions_limit, count_limit}
use Rattle.rmt_inserts.proofs.NameLemmas.{Lower, lower-irreflexive}
use Rattle.rmt_inserts.proofs.ListLemmas.{Has-map, map-Has, same-length}
use Rattle.rmt_inserts.proofs.ChildLemmas.{IsNameBelow, child-znode, znode-child, children-rise}
use Rattle.rmt_inserts.proofs.BelowLemmas.{below-numbers, there}

length-map : {A B : Type 0} (f : A → B) (xs : List A) → length (map f xs) ≡ length xs
length-map f [] = refl
length-map f (x ∷ xs) = let l = length-map f xs in omega (arith, l)

rising-once : (names : List (List ℕ)) → Pairwise Lower names → Pairwise ◌≢◌ names
rising-once [] p = tt
rising-once (x ∷ xs) p = (Each-all (λ y. x ≢ y) xs (λ y h e. lower-irreflexive y (subst (λ (w : List ℕ). Lower w y) e (Each-at (Lower x) xs y p.0 h))), rising-once xs p.1)

-- the text of a partition that exists
text_at : Option ℕ × ℕ → List ℕ
text_at x = partition_text x.0

same-text : (p q : Option ℕ) → IsPartition p → IsPartition q → partition_text p ≡ partition_text q → p ≡ q
same-text p q h k e = let w = znode_path-injective (Partition p) (Partition q) h k (ap (λ (s : List ℕ). last_two s) e) in same w
  where
    last_two : List ℕ → Names
    last_two s = codes "block_numbers" ∷ s ∷ []

    same : Partition p ≡ Partition q → p ≡ q
    same w = cc

texts-once : (xs : Nexts) → ((p : Option ℕ) (m : ℕ) → Has xs (p, m) → IsPartition p) → Pairwise (λ x y. rank x.0 < rank y.0) xs → Pairwise ◌≢◌ (map text_at xs)
unfolding text_at
texts-once [] f p = tt
texts-once (x ∷ xs) f p = (
  Each-all (λ s. text_at x ≢ s) (map text_at xs) (λ s h e. other s e (Has-map text_at xs s h)),
  texts-once xs (λ q m h. f q m (inr h)) p.1,
)
  where
    other : (s : List ℕ) → text_at x ≡ s → (y : Option ℕ × ℕ) × Has xs y × (text_at y ≡ s) → ⊥
    other s e r =
        let w = same-text x.0 r.0.0 (f x.0 x.1 (inl refl)) (f r.0.0 r.0.1 (inr r.1)) (e ∙ sym r.2) in
        let l = Each-at (λ (y : Option ℕ × ℕ). rank x.0 < rank y.0) xs r.0 p.0 r.1 in
        let v = ap rank w in
        omega (arith, l, v)

module _ (t : TreeView) (next : Nexts) (holders : Holders) (has : HasNumbers t next holders) where
  partition-there : (x : Option ℕ × ℕ) → Has next x → is_some (next_states next (lock_states holders has.states) (Partition x.0)) ≡ true
  partition-there x h = ap (λ (o : Option ℕ). is_some (option_map counting o)) (next-is next x.0 x.1 has.nexts h)

  -- a name below for each partition
  pub names-count : length (children t (znode_path Numbers)) ≡ length next
  unfolding text_at
  names-count =
      same-length (children t (znode_path Numbers)) (map text_at next) (rising-once (children t (znode_path Numbers)) (children-rise t (znode_path Numbers))) (texts-once next has.partitions has.nexts.rising) one other
      ∙ length-map text_at next
    where
      one : (name : List ℕ) → Has (children t (znode_path Numbers)) name → Has (map text_at next) name
      one name h = found (child-znode t (next_states next (lock_states holders has.states)) has.limits has.nodes Numbers tt name h)
        where
          found : IsNameBelow (next_states next (lock_states holders has.states)) Numbers name → Has (map text_at next) name
          found r =
              let w = below-numbers r.znode r.under in
              let s = there counting (next_of next w.0) (subst (λ (x : Znode). is_some (next_states next (lock_states holders has.states) x) ≡ true) w.1 r.there) in
              subst (Has (map text_at next)) (sym (r.name_is ∙ ap (λ (x : Znode). last_name (znode_path x)) w.1)) (named w.0 s.0 (next-has next w.0 s.0 s.1))
            where
              named : (p : Option ℕ) (m : ℕ) → Has next (p, m) → Has (map text_at next) (partition_text p)
              named p m h = map-Has text_at next (p, m) h

      other : (name : List ℕ) → Has (map text_at next) name → Has (children t (znode_path Numbers)) name
      other name h =
          let r = Has-map text_at next name h in
          subst (Has (children t (znode_path Numbers))) r.2 (znode-child t (next_states next (lock_states holders has.states)) has.limits has.nodes (Partition r.0.0) Numbers (has.partitions r.0.0 r.0.1 r.1) refl (partition-there r.0 r.1))

  -- no partition where their node isn't
  pub none-exist : IsSound t → is_some (node_at t (znode_path Numbers)) ≡ false → length next ≡ 0
  none-exist sound none = go next has partition-at
    where
      partition-at : (x : Option ℕ × ℕ) → Has next x → ⊥
      partition-at x h = absurd (false-true (node_at t (znode_path Numbers)) none (sound.shape.parents (znode_path (Partition x.0)) (some (node_at t (znode_path (Partition x.0))) (has.nodes.nodes (Partition x.0) (has.partitions x.0 x.1 h) ∙ ap (option_map counting) (next-is next x.0 x.1 has.nexts h)))))
        where
          some : (o : Option Node) → option_map state_of o ≡ Some (counting x.1) → is_some o ≡ true
          some None e = absurd (cc)
          some (Some n) e = refl

          false-true : (o : Option Node) → is_some o ≡ false → holds o ≡ true → ⊥
          false-true None e f = absurd (cc)
          false-true (Some n) e f = absurd (cc)

      go : (xs : Nexts) → HasNumbers t xs holders → ((x : Option ℕ × ℕ) → Has xs x → ⊥) → length xs ≡ 0
      go [] h f = refl
      go (x ∷ xs) h f = absurd (f x (inl refl))

  pub few-partitions : (count : ℕ) → count ≡ length next → count < 1024 → None ≡ partitions_limit next
  few-partitions count e l = let t : nat_le 1024 (length next) ≡ false = grind (arith, nat_tests) in sym (ap (λ (b : Bool). cond b (Some (limits.Partitions, length next)) None) t)

  pub many-partitions : (count : ℕ) → count ≡ length next → 1024 ≤ count → Some (limits.Partitions, count) ≡ partitions_limit next
  many-partitions count e l =
      let t : nat_le 1024 (length next) ≡ true = grind (arith, nat_tests) in
      ap (λ (n : ℕ). Some (limits.Partitions, n)) e ∙ sym (ap (λ (b : Bool). cond b (Some (limits.Partitions, length next)) None) t)

-- ---- the first limit

pub limit-none : (next : Nexts) (p : Option ℕ) → next_of next p ≡ None → partitions_limit next ≡ number_limit next p
limit-none next p e = sym (ap (λ (n : ℕ). cond (nat_eq n 0 && nat_le 1024 (length next)) (Some (limits.Partitions, length next)) (cond (nat_le 65536 n) (Some (limits.Numbers, n)) None)) (next-none next p e))

pub number-some : (next : Nexts) (p : Option ℕ) (n : ℕ) → AreNexts next → next_of next p ≡ Some n → next_number next p ≡ n
number-some next p n a e = number-is next p n a (next-has next p n e)

pub limit-some : (next : Nexts) (p : Option ℕ) (n : ℕ) → AreNexts next → next_of next p ≡ Some n → count_limit n ≡ number_limit next p
limit-some next p n a e =
    let b = a.begun p n (next-has next p n e) in
    let t : nat_eq n 0 ≡ false = grind (arith, nat_tests) in
    sym (ap (λ (m : ℕ). cond (nat_eq m 0 && nat_le 1024 (length next)) (Some (limits.Partitions, length next)) (cond (nat_le 65536 m) (Some (limits.Numbers, m)) None)) (number-some next p n a e)
    ∙ ap (λ (c : Bool). cond (c && nat_le 1024 (length next)) (Some (limits.Partitions, length next)) (cond (nat_le 65536 n) (Some (limits.Numbers, n)) None)) t)

-- the next number, 0 where there is none yet
pub number-or : (next : Nexts) (p : Option ℕ) → AreNexts next → unwrap_or (next_of next p) 0 ≡ next_number next p
number-or next p a = go (next_of next p) refl
  where
    go : (o : Option ℕ) → next_of next p ≡ o → unwrap_or o 0 ≡ next_number next p
    go None e = sym (next-none next p e)
    go (Some n) e = sym (number-some next p n a e)

pub ok-is : {A E : Type 0} (r : Result A E) (x y : A) → IfOk r (λ a. a ≡ x) → x ≡ y → IfOk r (λ a. a ≡ y)
ok-is (Ok a) x y h e = h ∙ e
ok-is (Err d) x y h e = tt
