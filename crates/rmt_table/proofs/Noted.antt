-- What a note makes of a table.
use Rattle.std.proofs.Common.{◌≡◌, ℕ, ◌<◌, inl, inr, Bool, true, false, cond, List, [], ◌∷◌, length, nat_eq, nat_lt, refl, sym, ap, subst, arith, ◌∙◌}
use Rattle.std.proofs.lemmas.Bool.Decides.{nat_tests}
use Rattle.std.specs.Prelude.{◌↔◌, IsTrue}
use Rattle.std.specs.declared.option.Option.{Option}
use Rattle.std.specs.declared.option.Option.TheVariants.{Some, None}
use Rattle.rmt_names.specs.Names.{Name}
use Rattle.rmt_row.specs.Token.{Token}
use Rattle.rmt_entries.specs.declared.entry.Entry.{Entry}
use Rattle.rmt_entries.specs.EntryBytes.{entry_bytes}
use Rattle.rmt_model.specs.Words.{Has, Pairwise}
use Rattle.rmt_model.proofs.Lists.{Each-at}
use Rattle.rmt_model.specs.Quorum.{Pending, Quorum, IsPending, IsQuorum, noted_with, quorum_noted, noted_by, quorum_after_note}
use Rattle.rmt_tree.specs.Trees.{TreeView}
use Rattle.rmt_tree.specs.Ops.{first_refusal, after_all}
use Rattle.rmt_tree.specs.declared.op.Op.{Op}
use Rattle.rmt_znodes.specs.ZnodeStates.{Makes}
use Rattle.rmt_table_model.specs.Tables.{TableView}
use Rattle.rmt_table_model.specs.Changes.{after_note}
use Rattle.rmt_table_model.specs.Nodes.{IsTable, noted_ops}
use Rattle.rmt_table_model.specs.Steps.{Steps}
use Rattle.rmt_table_model.specs.Held.{Held, table_of}
use Rattle.rmt_table_model.proofs.TableLemmas.{note-steps}
use Rattle.rmt_table_model.proofs.HeldLemmas.{held-table, held-held}
use Rattle.rmt_events.specs.TableCalls.{Notes}
use Rattle.rmt_table.specs.SeenTable.{shown}
use Rattle.rmt_table.specs.TableTrees.{table_at, Counts, IsTableTree}
use Rattle.rmt_table.specs.Quorums.{IsPendingPart, IsNotedAt, NotesTree, NotesAt}

-- a replica that isn't told to have noted it hasn't
pub not-noted : {A : Type 0} (b : Bool) → IsTrue b ↔ A → b ≡ false → A → ⊥
not-noted true f e a = absurd (cc)
not-noted false f e a = let t = f.1 a in absurd (cc)

-- the replica is noted for the part that waits, where it is told so
pub noted-told : (o : Option Pending) (q : Pending) (r : ℕ) (b : Bool) → o ≡ Some q → IsTrue b ↔ Has q.noted r → IsTrue b ↔ IsNotedAt o r
noted-told o q r b e f = subst (λ (p : Option Pending). IsTrue b ↔ IsNotedAt p r) (sym e) f

-- no replica is where none waits
pub none-told : (o : Option Pending) (r : ℕ) (b : Bool) → o ≡ None → b ≡ false → IsTrue b ↔ IsNotedAt o r
none-told o r b e f = subst (λ (p : Option Pending). IsTrue b ↔ IsNotedAt p r) (sym e) (λ t. absurd (cc), λ n. absurd n)

-- a replica that has noted it changes nothing
pub noted-again : (r : ℕ) (xs : List ℕ) → Pairwise ◌<◌ xs → Has xs r → noted_with r xs ≡ xs
noted-again r [] w h = absurd h
noted-again r (x ∷ xs) w h = go (nat_lt x r) refl (nat_eq x r) refl h (noted-again r xs w.1)
  where
    go : (b : Bool) → nat_lt x r ≡ b → (c : Bool) → nat_eq x r ≡ c → Has (x ∷ xs) r → (Has xs r → noted_with r xs ≡ xs) → cond b (x ∷ noted_with r xs) (cond c (x ∷ xs) (r ∷ x ∷ xs)) ≡ x ∷ xs
    go true t c u (inl e) f = absurd (grind (arith, nat_tests))
    go true t c u (inr m) f = ap (λ (ys : List ℕ). x ∷ ys) (f m)
    go false t true u m f = refl
    go false t false u (inl e) f = absurd (grind (arith, nat_tests))
    go false t false u (inr m) f = let l : x < r = Each-at (λ y. x < y) xs r w.0 m in absurd (grind (arith, nat_tests))

module _ (h : Held) (tokens : List (Token Entry)) (counts : Counts) (is : IsTableTree h tokens counts) (now : Held) (same : h ≡ now) (r : ℕ) (q : Pending) (waits : h.quorum.pending ≡ Some q) (part : Name) (named : q.part ≡ part) where
  waits-now : now.quorum.pending ≡ Some q
  waits-now = subst (λ (k : Held). k.quorum.pending ≡ Some q) same waits

  is-part : IsPendingPart now.quorum.pending part
  is-part = subst (λ (o : Option Pending). IsPendingPart o part) (sym waits-now) named

  few : IsPending h.log (Some q) (IsQuorum.others is.held.sound.quorum)
  few = subst (λ (o : Option Pending). IsPending h.log o (IsQuorum.others is.held.sound.quorum)) waits (IsQuorum.pending is.held.sound.quorum)

  one-pending : (p : Pending) → h.quorum.pending ≡ Some p → q ≡ p
  one-pending p i = go h.quorum.pending waits i
    where
      go : (o : Option Pending) → o ≡ Some q → o ≡ Some p → q ≡ p
      go o e f = cc

  -- the replica is noted already
  pub noted-still : Has q.noted r → NotesAt now r part now
  noted-still m = subst (λ (k : Held). NotesAt k r part k) same (record {
    waits = subst (λ (o : Option Pending). IsPendingPart o part) (sym waits) named;
    seen = ap (λ (k : Quorum). record (table_at h) { quorum = k }) (sym stays);
    tree = λ p i. record { again = λ n. refl; first = λ n. absurd (n (subst (λ (x : Pending). Has x.noted r) (one-pending p i) m)) };
  })
    where
      t : nat_lt (length q.noted) q.need ≡ true
      t = let l = few.2 in grind (arith, nat_tests)

      noted-is : noted_by r h.quorum (Some q) ≡ record { pending = Some q; last = h.quorum.last }
      noted-is =
          ap (λ (xs : List ℕ). quorum_noted q xs h.quorum.last) (noted-again r q.noted few.3 m)
          ∙ ap (λ (b : Bool). cond b (record { pending = Some (record { part = q.part; need = q.need; noted = q.noted }); last = h.quorum.last }) (record { pending = None; last = Some q.part })) t

      stays : quorum_after_note r h.quorum ≡ h.quorum
      stays = ap (noted_by r h.quorum) waits ∙ noted-is ∙ ap (λ (o : Option Pending). record { pending = o; last = h.quorum.last }) (sym waits)

  module _ (new : Has q.noted r → ⊥) (small : length q.noted < 4294967295) (ops : List Op) (ops-are : ops ≡ noted_ops q (noted_with r q.noted) h.quorum.last) where
    steps : Steps entry_bytes h.tree (noted_ops q (noted_with r q.noted) h.quorum.last) (after_note r (table_of h))
    steps = note-steps entry_bytes h.tree (table_of h) is.held r q waits new small

    pub note-fine : first_refusal h.tree ops 0 ≡ None
    note-fine = subst (λ (xs : List Op). first_refusal h.tree xs 0 ≡ None) (sym ops-are) (Makes.none_refused (Steps.makes steps) 0)

    module _ (t : TreeView) (t-is : t ≡ after_all h.tree ops) (quorum : Quorum) (quorum-is : quorum ≡ quorum_after_note r h.quorum) where
      abbrev pub noted_held : Held
      noted_held = record h { quorum = quorum; tree = t }

      table : IsTable entry_bytes t (after_note r (table_of h))
      table = subst (λ (u : TreeView). IsTable entry_bytes u (after_note r (table_of h))) (sym (t-is ∙ ap (after_all h.tree) ops-are)) (Steps.table steps)

      after-is : ◌≡◌ {A = TableView} (record (after_note r (table_of h)) { holders = (table_of noted_held).holders }) (table_of noted_held)
      after-is = ap (λ (k : Quorum). record (table_of noted_held) { quorum = k }) (sym quorum-is)

      pub noted-tree : IsTableTree noted_held tokens counts
      noted-tree = record {
        held = held-held entry_bytes noted_held (after_note r (table_of h)) table after-is;
        counted = record { clients = is.counted.clients; workers = is.counted.workers; mutations = is.counted.mutations; blocks = is.counted.blocks; window = is.counted.window };
        places = is.places;
      }

      pub noted-at : NotesAt now r part noted_held
      noted-at = subst (λ (k : Held). NotesAt k r part noted_held) same (record {
        waits = subst (λ (o : Option Pending). IsPendingPart o part) (sym waits) named;
        seen = subst (λ (v : TableView). Notes (table_at h) r (shown v)) (sym (held-table entry_bytes noted_held (after_note r (table_of h)) table after-is)) refl;
        tree = λ p i. subst (λ (x : Pending). NotesTree h r x noted_held) (one-pending p i) (record { again = λ m. absurd (new m); first = λ n. t-is ∙ ap (after_all h.tree) ops-are });
      })
