-- A session that was opened and ended again leaves no trace.
use Rattle.std.proofs.Common.{◌≡◌, ℕ, zero, suc, inl, inr, ◌&&◌, ◌||◌, Bool, true, false, cond, not, is_some, List, [], ◌∷◌, refl, sym, ap, arith, ◌∙◌, nat_eq, get_or}
use Rattle.std.proofs.lemmas.Bool.Decides.{nat_tests}
use Rattle.std.specs.FinMap as finmap
use Rattle.std.specs.FinSet as finset
use Rattle.std.specs.Ordering.{is_eq}
use Rattle.std.specs.Cmp.{nat_cmp_total}
use Rattle.std.specs.Option.{option_map, option_and_then}
use Rattle.std.specs.declared.option.Option.{Option}
use Rattle.std.specs.declared.option.Option.TheVariants.{Some, None}
use Rattle.rmt_names.specs.Texts.{text_of}
use Rattle.std.specs.Fmt.{decimal}
use Rattle.rmt_entries.specs.declared.entry.Entry.{Entry}
use Rattle.rmt_model.specs.Lawful.{entry_at}
use Rattle.rmt_paths.specs.Paths.{Names}
use Rattle.rmt_paths.specs.PathOrder.{path_cmp, path_total}
use Rattle.rmt_tree.specs.Trees.{Node, TreeView, node_at, is_open, is_session, is_owned_by, without_owned, opened, ended}
use Rattle.rmt_znodes.specs.declared.znode.Znode.{Znode}
use Rattle.rmt_znodes.specs.declared.znode.Znode.TheVariants.{Log, LogEntry, Blocks, Block, Order, OrderOf, Numbers, Partition, Lock, Mutations, MutationNode, Quorum, Status, LastPart, Replicas, Replica, LogPointer, IsActive}
use Rattle.rmt_znodes.specs.Znodes.{znode_path, id_text}
use Rattle.rmt_znodes.specs.ZnodeStates.{ZnodeState, state_of, is_held_by, IsRoot}
use Rattle.rmt_paths.proofs.OrderLemmas.{is_path-is}
use Rattle.rmt_table_model.specs.Numbers.{next_of}
use Rattle.rmt_table_model.specs.Kept.{in_order, with_id, with_number}
use Rattle.rmt_table_model.specs.Tables.{TableView, IsOpen}
use Rattle.rmt_table_model.specs.Nodes.{plain, counting, owned, slot, mutation_place, status_text, expected, IsTable}
use Rattle.rmt_table_model.proofs.TableLemmas.{opened-at, ended-at}

-- no node of a table is owned by a session that isn't open
module _ (bytes : Entry → List ℕ) (t : TreeView) (v : TableView) (is : IsTable bytes t v) (n : ℕ) (closed : is_open t n ≡ false) where
  not-open : (s : ℕ) → IsOpen v.sessions s → nat_eq s n ≡ false
  not-open s o = go (nat_eq s n) refl
    where
      go : (b : Bool) → nat_eq s n ≡ b → b ≡ false
      go true e =
          let w : s ≡ n = grind (arith, nat_tests) in
          let q : true ≡ false = sym ((is.tree.sessions s).1 o) ∙ ap (is_open t) w ∙ closed in
          cc
      go false e = refl

  unheld : {A : Type 0} (f : A → ZnodeState) (o : Option A) → ((a : A) → (f a).owner ≡ None) → is_held_by n (option_map f o) ≡ false
  unheld f None g = refl
  unheld f (Some a) g = ap (is_session n) (g a)

  lock : (q : Option ℕ) (k : ℕ) → is_held_by n (option_map owned (v.holders q k)) ≡ false
  lock q k = go (v.holders q k) refl
    where
      go : (o : Option ℕ) → v.holders q k ≡ o → is_held_by n (option_map owned o) ≡ false
      go None e = refl
      go (Some s) e = not-open s (is.sound.held q k s e)

  active : (r : ℕ) → is_held_by n (option_and_then (λ s. option_map owned s) (slot v.sessions r)) ≡ false
  active zero = refl
  active (suc r) = go (slot v.sessions (suc r)) refl
    where
      session-at : (xs : List (Option ℕ)) (i s : ℕ) → slot xs (suc i) ≡ Some (Some s) → get_or xs i None ≡ Some s
      session-at [] i s e = absurd (cc)
      session-at (x ∷ xs) zero s e = cc
      session-at (x ∷ xs) (suc i) s e = session-at xs i s e

      go : (o : Option (Option ℕ)) → slot v.sessions (suc r) ≡ o → is_held_by n (option_and_then (λ s. option_map owned s) o) ≡ false
      go None e = refl
      go (Some None) e = refl
      go (Some (Some s)) e = not-open s (r, session-at v.sessions r s e)

  none-held : (y : Znode) → is_held_by n (expected bytes v y) ≡ false
  none-held Log = refl
  none-held (LogEntry i) = unheld (λ x. plain (bytes x)) (entry_at v.log i) (λ a. refl)
  none-held Blocks = refl
  none-held (Block q d) = unheld (λ k. plain (text_of k.kept.part)) (with_id q d (in_order v.schema.window v.log)) (λ a. refl)
  none-held Order = refl
  none-held (OrderOf i) = unheld (λ k. plain (id_text k.kept.part.partition k.kept.digest)) (with_number i (in_order v.schema.window v.log)) (λ a. refl)
  none-held Numbers = refl
  none-held (Partition q) = unheld counting (next_of v.next q) (λ a. refl)
  none-held (Lock q k) = lock q k
  none-held Mutations = refl
  none-held (MutationNode i) = unheld (λ j. plain (decimal j)) (mutation_place v.log i) (λ a. refl)
  none-held Quorum = refl
  none-held Status = unheld (λ q. plain (status_text q)) v.quorum.pending (λ a. refl)
  none-held LastPart = unheld (λ a. plain (text_of a)) v.quorum.last (λ a. refl)
  none-held Replicas = refl
  none-held (Replica r) = unheld (λ s. plain []) (slot v.sessions r) (λ a. refl)
  none-held (LogPointer r) = unheld (λ m. plain (decimal m)) (slot v.pulled r) (λ a. refl)
  none-held (IsActive r) = active r

  none-owned : (q : Names) → is_owned_by n (node_at t q) ≡ false
  none-owned q = go (node_at t q) refl
    where
      state : (o : Option Node) → is_owned_by n o ≡ is_held_by n (option_map state_of o)
      state None = refl
      state (Some m) = refl

      root : (o : Option Node) → IsRoot o → is_owned_by n o ≡ false
      root None r = absurd r
      root (Some m) r = ap (is_session n) r

      go : (o : Option Node) → node_at t q ≡ o → is_owned_by n (node_at t q) ≡ false
      go None e = ap (is_owned_by n) e
      go (Some m) e = elim (is.tree.nodes.only q (ap is_some e)) [
        | inl i ↦ ap (λ (w : Names). is_owned_by n (node_at t w)) i ∙ root (node_at t []) is.tree.nodes.root
        | inr o ↦ ap (λ (w : Names). is_owned_by n (node_at t w)) o.is ∙ state (node_at t (znode_path o.znode)) ∙ ap (is_held_by n) (is.tree.nodes.nodes o.znode o.is_znode) ∙ none-held o.znode
      ]

  -- the tree is as it was
  pub open-undone : ended (opened t n) n ≡ t
  open-undone = λ i. record { nodes = nodes i; sessions = sessions i }
    where
      nodes : without_owned t.nodes n ≡ t.nodes
      nodes = finmap.same_map path_total exact (without_owned t.nodes n) t.nodes (λ q.
          finmap.get-retain_keys t.nodes (λ p. not (is_owned_by n (finmap.get t.nodes p))) q (λ p e. ap (λ (w : Names). not (is_owned_by n (finmap.get t.nodes w))) (sym (is_path-is q p (ap is_eq e))))
          ∙ ap (λ (b : Bool). cond (not b) (finmap.get t.nodes q) None) (none-owned q))
        where
          exact : finmap.IsAntisymmetric path_cmp
          exact p q e = is_path-is p q (ap is_eq e)

      sessions : finset.remove (finset.insert t.sessions n) n ≡ t.sessions
      sessions = finset.same_set nat_cmp_total finmap.nat_cmp-IsAntisymmetric (finset.remove (finset.insert t.sessions n) n) t.sessions (λ s. ended-at (opened t n) n s ∙ ap (λ (b : Bool). not (nat_eq s n) && b) (opened-at t n s) ∙ both s (nat_eq s n) refl)
        where
          both : (s : ℕ) (b : Bool) → nat_eq s n ≡ b → (not b && (b || is_open t s)) ≡ is_open t s
          both s true e = let w : s ≡ n = grind (arith, nat_tests) in sym (ap (is_open t) w ∙ closed)
          both s false e = refl
