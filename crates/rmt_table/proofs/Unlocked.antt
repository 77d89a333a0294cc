-- A lock that is looked for, and the table once it is gone.
use Rattle.std.proofs.Common.{◌≡◌, ◌↔◌, ℕ, Bool, true, false, is_some, not, List, [], ◌∷◌, Bor, refl, sym, ap, subst, ◌∙◌}
use Rattle.std.specs.declared.option.Option.{Option}
use Rattle.std.specs.declared.option.Option.TheVariants.{Some, None}
use Rattle.std.specs.Option.{option_map}
use Rattle.rmt_row.specs.Token.{Token}
use Rattle.rmt_entries.specs.declared.entry.Entry.{Entry}
use Rattle.rmt_entries.specs.EntryBytes.{entry_bytes}
use Rattle.rmt_paths.specs.Paths.{Names}
use Rattle.rmt_tree.specs.Trees.{Node, TreeView, node_at, lent_data, value_and_version}
use Rattle.rmt_tree.specs.Ops.{after_all, first_refusal}
use Rattle.rmt_tree.specs.declared.op.Op.TheVariants as op
use Rattle.rmt_znodes.specs.declared.znode.Znode.TheVariants.{Lock}
use Rattle.rmt_znodes.specs.Znodes.{znode_path, IsZnode}
use Rattle.rmt_table_model.specs.Numbers.{Holders, IsLocked}
use Rattle.rmt_table_model.specs.Tables.{TableView}
use Rattle.rmt_table_model.specs.Changes.{after_abandon}
use Rattle.rmt_table_model.specs.Nodes.{IsTable}
use Rattle.rmt_table_model.specs.Held.{Held, table_of, holders_in}
use Rattle.rmt_znodes.specs.ZnodeStates.{Makes}
use Rattle.rmt_table_model.specs.Steps.{Steps}
use Rattle.rmt_table_model.proofs.TableLemmas.{abandon-steps}
use Rattle.rmt_table_model.proofs.HeldLemmas.{held-table, held-held, held-abandon, lock-there, unlocked-none}
use Rattle.rmt_events.specs.TableCalls.{Unlocks}
use Rattle.rmt_events.specs.TableCalls as seen
use Rattle.rmt_table.specs.SeenTable.{shown}
use Rattle.rmt_table.proofs.CallBridge.{abandon-bridge, shown-locked, locked-shown}
use Rattle.rmt_table.specs.TableTrees.{table_at, Counts, AreCounts, IsTableTree, IsUnlocked}

-- what a read of a node tells
read-is : (o : Option (Bor (List ℕ) × ℕ)) (n : Option Node) → option_map lent_data o ≡ option_map value_and_version n → is_some o ≡ is_some n
read-is None None e = refl
read-is None (Some m) e = absurd (cc)
read-is (Some x) None e = absurd (cc)
read-is (Some x) (Some m) e = refl

-- the counts are those of a table with another tree
pub recounted : (h : Held) (counts : Counts) (t : TreeView) → AreCounts h counts → AreCounts (record h { tree = t }) counts
recounted h counts t c = record { clients = c.clients; workers = c.workers; mutations = c.mutations; blocks = c.blocks; window = c.window }

module _ (h : Held) (tokens : List (Token Entry)) (counts : Counts) (k : IsTableTree h tokens counts) (now : Held) (e : h ≡ now) (p : Option ℕ) (n : ℕ) (znode : IsZnode (Lock p n)) (path : Names) (at : path ≡ znode_path (Lock p n))
    (found : Option (Bor (List ℕ) × ℕ)) (get : option_map lent_data found ≡ option_map value_and_version (node_at h.tree path)) (b : Bool) (test : is_some found ≡ not b) where
  absent : b ≡ true → is_some (node_at h.tree path) ≡ false
  absent f = sym (read-is found (node_at h.tree path) get) ∙ test ∙ ap not f

  present : b ≡ false → is_some (node_at h.tree path) ≡ true
  present f = sym (read-is found (node_at h.tree path) get) ∙ test ∙ ap not f

  there : (d : Bool) → is_some (node_at h.tree path) ≡ d → (d ≡ true) ↔ IsLocked (holders_in h.tree) p n
  there d q = lock-there h p n znode.0 znode.1 entry_bytes k.held d (ap (λ (w : Names). is_some (node_at h.tree w)) (sym at) ∙ q)

  pub lock-held : b ≡ false → IsLocked (holders_in h.tree) p n
  lock-held f = (there true (present f)).0 refl

  pub lock-seen : b ≡ false → seen.IsLocked (table_at now).locks p n
  lock-seen f = subst (λ (w : Held). seen.IsLocked (table_at w).locks p n) e (let l = lock-held f in shown-locked (table_of h) p n l.0 k.held.sound l.1)

  pub lock-fine : b ≡ false → first_refusal h.tree (op.Delete path None ∷ []) 0 ≡ None
  lock-fine f = subst (λ (w : Names). first_refusal h.tree (op.Delete w None ∷ []) 0 ≡ None) (sym at)
      (Makes.none_refused (Steps.makes (abandon-steps entry_bytes h.tree (table_of h) k.held p n (lock-held f))) 0)

  free : b ≡ true → IsLocked (holders_in h.tree) p n → ⊥
  free f l = let q : false ≡ true = (there false (absent f)).1 l in cc

  pub lock-gone : b ≡ true → seen.IsLocked (table_at now).locks p n → ⊥
  lock-gone f l = free f (locked-shown (table_of h) p n k.held.sound (subst (λ (w : Held). seen.IsLocked (table_at w).locks p n) (sym e) l))

  pub unlocks-none : b ≡ true → Unlocks (table_at now) p n (table_at now)
  unlocks-none f = subst (λ (w : Held). Unlocks (table_at w) p n (table_at w)) e
      (subst (λ (w : TableView). Unlocks (table_at h) p n (shown w)) (sym (ap (λ (o : Holders). record (table_of h) { holders = o }) (unlocked-none (holders_in h.tree) p n (free f)))) (abandon-bridge (table_of h) k.held.sound p n))

  -- what is told of it
  pub lock-told : (d : Bool) → b ≡ not d → (d ≡ true) ↔ seen.IsLocked (table_at now).locks p n
  lock-told true q = (λ t. lock-seen q, λ l. refl)
  lock-told false q = (λ t. absurd (cc), λ l. absurd (lock-gone q l))

  module _ (f : b ≡ false) (t : TreeView) (done : t ≡ after_all h.tree (op.Delete path None ∷ [])) where
    tree-is : t ≡ after_all h.tree (op.Delete (znode_path (Lock p n)) None ∷ [])
    tree-is = done ∙ ap (λ (w : Names). after_all h.tree (op.Delete w None ∷ [])) at

    table : IsTable entry_bytes t (after_abandon p n (table_of h))
    table = held-abandon entry_bytes h p n t k.held (lock-held f) tree-is

    pub unlocked-tree : IsTableTree (record h { tree = t }) tokens counts
    unlocked-tree = record {
      held = held-held entry_bytes (record h { tree = t }) (after_abandon p n (table_of h)) table refl;
      counted = recounted h counts t k.counted;
      places = k.places;
    }

    pub unlocked-is : IsUnlocked now p n (record h { tree = t })
    unlocked-is = subst (λ (w : Held). IsUnlocked w p n (record h { tree = t })) e (record {
      seen = subst (λ (w : TableView). Unlocks (table_at h) p n (shown w)) (sym (held-table entry_bytes (record h { tree = t }) (after_abandon p n (table_of h)) table refl)) (abandon-bridge (table_of h) k.held.sound p n);
      tree = tree-is;
    })
