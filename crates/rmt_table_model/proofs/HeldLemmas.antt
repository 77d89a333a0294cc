-- The locks of a table are those of its tree.
use Rattle.std.proofs.Common.{◌≡◌, ◌↔◌, ℕ, ◌<◌, ◌^◌, ◌&&◌, Bool, true, false, cond, is_some, nat_eq, List, [], ◌∷◌, refl, sym, ap, subst, arith, ◌∙◌, nat_lt}
use Rattle.std.proofs.lemmas.Bool.Decides.{nat_tests}
use Rattle.std.specs.declared.option.Option.{Option}
use Rattle.std.specs.declared.option.Option.TheVariants.{Some, None}
use Rattle.std.specs.Option.{option_map}
use Rattle.rmt_entries.specs.declared.entry.Entry.{Entry}
use Rattle.rmt_tree.specs.Trees.{Node, TreeView, node_at}
use Rattle.rmt_znodes.specs.declared.znode.Znode.TheVariants.{Lock}
use Rattle.rmt_znodes.specs.Znodes.{znode_path, IsZnode, IsPartition}
use Rattle.rmt_znodes.specs.ZnodeStates.{ZnodeState, state_of}
use Rattle.rmt_names.specs.Names.{rank}
use Rattle.rmt_model.proofs.Lists.{rank-injective}
use Rattle.rmt_tree.specs.Ops.{after, after_all}
use Rattle.rmt_paths.specs.Paths.{Names}
use Rattle.rmt_tree.specs.declared.op.Op.TheVariants as op
use Rattle.rmt_table_model.specs.Numbers.{Holders, IsLocked, unlocked}
use Rattle.rmt_table_model.specs.Changes.{after_abandon}
use Rattle.rmt_table_model.specs.Steps.{Steps}
use Rattle.rmt_table_model.proofs.TableLemmas.{abandon-steps}
use Rattle.rmt_table_model.specs.Tables.{TableView}
use Rattle.rmt_table_model.specs.Nodes.{owned, IsTable}
use Rattle.rmt_table_model.specs.Held.{fits, owner_of, holders_in, Held, table_of, IsHeld}
use Rattle.rmt_table_model.proofs.StepNodes.{lock-znode}

fits-true : (p : Option ℕ) → fits p ≡ true → IsPartition p
fits-true None e = tt
fits-true (Some p) e = grind (arith, nat_tests)

fits-is : (p : Option ℕ) → IsPartition p → fits p ≡ true
fits-is None h = refl
fits-is (Some p) h = let l : p < 2 ^ 64 = h in grind (arith, nat_tests)

-- the owner of a lock's node
owner-is : (o : Option Node) (h : Option ℕ) → option_map state_of o ≡ option_map owned h → owner_of o ≡ h
owner-is None None e = refl
owner-is None (Some s) e = absurd (cc)
owner-is (Some n) None e = absurd (cc)
owner-is (Some n) (Some s) e = let q : state_of n ≡ owned s = cc in ap (λ (f : ZnodeState). f.owner) q

pub holder-in : (bytes : Entry → List ℕ) (t : TreeView) (v : TableView) → IsTable bytes t v → (p : Option ℕ) (n : ℕ) → holders_in t p n ≡ v.holders p n
holder-in bytes t v is p n = go (fits p) refl (nat_lt n (2 ^ 32)) refl
  where
    outside : (IsZnode (Lock p n) → ⊥) → (o : Option ℕ) → v.holders p n ≡ o → None ≡ v.holders p n
    outside f None e = sym e
    outside f (Some s) e = absurd (f (lock-znode v is.sound p n (s, e)))

    go : (a : Bool) → fits p ≡ a → (b : Bool) → nat_lt n (2 ^ 32) ≡ b → cond (a && b) (owner_of (node_at t (znode_path (Lock p n)))) None ≡ v.holders p n
    go true e true f = owner-is (node_at t (znode_path (Lock p n))) (v.holders p n) (is.tree.nodes.nodes (Lock p n) (fits-true p e, grind (arith, nat_tests)))
    go true e false f = outside (λ s. let l = s.1 in absurd (grind (arith, nat_tests))) (v.holders p n) refl
    go false e b f = outside (λ s. let q = fits-is p s.0 in let z : true ≡ false = sym q ∙ e in cc) (v.holders p n) refl

-- so they are one
pub holders-in : (bytes : Entry → List ℕ) (t : TreeView) (v : TableView) → IsTable bytes t v → holders_in t ≡ v.holders
holders-in bytes t v is = λ i p n. holder-in bytes t v is p n i

-- a table in its tree is what is held of it with this tree
pub held-is : (bytes : Entry → List ℕ) (t : TreeView) (v : TableView) → IsTable bytes t v → ◌≡◌ {A = TableView} (record v { holders = holders_in t }) v
held-is bytes t v is = ap (λ (h : Holders). record v { holders = h }) (holders-in bytes t v is)

-- a table in its tree, where this is what is held of it
pub held-table : (bytes : Entry → List ℕ) (h : Held) (w : TableView) → IsTable bytes h.tree w → ◌≡◌ {A = TableView} (record w { holders = holders_in h.tree }) (table_of h) → table_of h ≡ w
held-table bytes h w is e = sym e ∙ held-is bytes h.tree w is

pub held-held : (bytes : Entry → List ℕ) (h : Held) (w : TableView) → IsTable bytes h.tree w → ◌≡◌ {A = TableView} (record w { holders = holders_in h.tree }) (table_of h) → IsHeld bytes h
held-held bytes h w is e = subst (IsTable bytes h.tree) (sym (held-table bytes h w is e)) is

-- a lock is one where its node is there
pub lock-there : (h : Held) (p : Option ℕ) (n : ℕ) → IsPartition p → n < 2 ^ 32 → (bytes : Entry → List ℕ) → IsHeld bytes h → (b : Bool) → is_some (node_at h.tree (znode_path (Lock p n))) ≡ b → (b ≡ true) ↔ IsLocked (holders_in h.tree) p n
lock-there h p n fit small bytes is b e = (forth, back)
  where
    at : option_map state_of (node_at h.tree (znode_path (Lock p n))) ≡ option_map owned (holders_in h.tree p n)
    at = is.tree.nodes.nodes (Lock p n) (fit, small)

    forth : b ≡ true → IsLocked (holders_in h.tree) p n
    forth f = go (node_at h.tree (znode_path (Lock p n))) (holders_in h.tree p n) refl at (e ∙ f)
      where
        go : (o : Option Node) (s : Option ℕ) → holders_in h.tree p n ≡ s → option_map state_of o ≡ option_map owned s → is_some o ≡ true → IsLocked (holders_in h.tree) p n
        go None s k q i = absurd (cc)
        go (Some m) None k q i = absurd (cc)
        go (Some m) (Some s) k q i = (s, k)

    back : IsLocked (holders_in h.tree) p n → b ≡ true
    back l = go (node_at h.tree (znode_path (Lock p n))) refl
      where
        go : (o : Option Node) → node_at h.tree (znode_path (Lock p n)) ≡ o → b ≡ true
        go None k = let q : ◌≡◌ {A = Option ZnodeState} None (Some (owned l.0)) = ap (option_map state_of) (sym k) ∙ at ∙ ap (option_map owned) l.1 in absurd (cc)
        go (Some m) k = sym e ∙ ap is_some k

-- without a lock that isn't there the locks are the same
pub unlocked-none : (h : Holders) (p : Option ℕ) (n : ℕ) → (IsLocked h p n → ⊥) → h ≡ unlocked h p n
unlocked-none h p n f = λ i q m. each q m i
  where
    free : (o : Option ℕ) → h p n ≡ o → h p n ≡ None
    free None e = e
    free (Some s) e = absurd (f (s, e))

    each : (q : Option ℕ) (m : ℕ) → h q m ≡ unlocked h p n q m
    each q m = go (nat_eq (rank q) (rank p) && nat_eq m n) refl
      where
        go : (b : Bool) → (nat_eq (rank q) (rank p) && nat_eq m n) ≡ b → h q m ≡ cond b None (h q m)
        go true e =
            let u : q ≡ p = rank-injective q p (grind (arith, nat_tests)) in
            let v : m ≡ n = grind (arith, nat_tests) in
            ap (λ (r : Option ℕ). h r m) u ∙ ap (h p) v ∙ free (h p n) refl
        go false e = refl

-- a lock that goes
pub held-abandon : (bytes : Entry → List ℕ) (h : Held) (p : Option ℕ) (n : ℕ) (t : TreeView) → IsHeld bytes h → IsLocked (holders_in h.tree) p n → t ≡ after_all h.tree (op.Delete (znode_path (Lock p n)) None ∷ []) → IsTable bytes t (after_abandon p n (table_of h))
held-abandon bytes h p n t is l e = subst (λ (u : TreeView). IsTable bytes u (after_abandon p n (table_of h))) (sym e) (Steps.table (abandon-steps bytes h.tree (table_of h) is p n l))

-- abandon: what the test of a node tells, and what follows
module _ (bytes : Entry → List ℕ) (h : Held) (is : IsHeld bytes h) (p : Option ℕ) (n : ℕ) (znode : IsZnode (Lock p n)) (path : Names) (at : path ≡ znode_path (Lock p n)) (b : Bool) (test : b ≡ is_some (node_at h.tree path)) where
  abandon-tells : (b ≡ true) ↔ IsLocked (holders_in h.tree) p n
  abandon-tells = lock-there h p n znode.0 znode.1 bytes is b (ap (λ (q : Names). is_some (node_at h.tree q)) (sym at) ∙ sym test)

  pub abandon-there : (now : Held) → h ≡ now → (b ≡ true) ↔ IsLocked (holders_in now.tree) p n
  abandon-there now e = subst (λ (k : Held). (b ≡ true) ↔ IsLocked (holders_in k.tree) p n) e abandon-tells

  pub abandon-none : b ≡ false → (now : Held) → h ≡ now → table_of now ≡ after_abandon p n (table_of now)
  abandon-none f now e = subst (λ (k : Held). table_of k ≡ after_abandon p n (table_of k)) e
      (ap (λ (o : Holders). record (table_of h) { holders = o }) (unlocked-none (holders_in h.tree) p n (λ l. let w = abandon-tells.1 l in let z : true ≡ false = sym w ∙ f in cc)))

  pub abandon-done : b ≡ true → (t : TreeView) → t ≡ after h.tree (op.Delete path None) → IsTable bytes t (after_abandon p n (table_of h))
  abandon-done f t e = held-abandon bytes h p n t is (abandon-tells.0 f) (e ∙ ap (λ (q : Names). after h.tree (op.Delete q None)) at)

  pub abandon-held : b ≡ true → (t : TreeView) → t ≡ after h.tree (op.Delete path None) → IsHeld bytes (record h { tree = t })
  abandon-held f t e = held-held bytes (record h { tree = t }) (after_abandon p n (table_of h)) (abandon-done f t e) refl

  pub abandon-ok : b ≡ true → (t : TreeView) → t ≡ after h.tree (op.Delete path None) → (now : Held) → h ≡ now → table_of (record h { tree = t }) ≡ after_abandon p n (table_of now)
  abandon-ok f t e now q = held-table bytes (record h { tree = t }) (after_abandon p n (table_of h)) (abandon-done f t e) refl ∙ ap (λ (k : Held). after_abandon p n (table_of k)) q
