-- What a note makes of the nodes.
use Rattle.std.proofs.Common.{◌≡◌, ℕ, ◌-◌, ◌<◌, ◌≤◌, ◌⊎◌, inl, inr, Bool, true, false, cond, List, [], ◌∷◌, length, refl, sym, ap, subst, arith, nat_lt}
use Rattle.std.specs.declared.option.Option.{Option}
use Rattle.std.specs.declared.option.Option.TheVariants.{Some, None}
use Rattle.std.specs.Option.{option_map}
use Rattle.rmt_names.specs.Names.{Name}
use Rattle.rmt_names.specs.Texts.{text_of}
use Rattle.rmt_entries.specs.declared.entry.Entry.{Entry}
use Rattle.rmt_model.specs.Words.{Has}
use Rattle.rmt_tree.specs.Trees.{TreeView}
use Rattle.rmt_tree.specs.Ops.{after, last_version}
use Rattle.rmt_tree.specs.declared.op.Op.TheVariants as op
use Rattle.rmt_znodes.specs.declared.znode.Znode.{Znode}
use Rattle.rmt_znodes.specs.declared.znode.Znode.TheVariants.{Log, LogEntry, Blocks, Block, Order, OrderOf, Numbers, Partition, Lock, Mutations, MutationNode, Quorum, Status, LastPart, Replicas, Replica, LogPointer, IsActive}
use Rattle.rmt_znodes.specs.Znodes.{znode_path, IsZnode}
use Rattle.rmt_znodes.specs.ZnodeStates.{with_state, without_state, raised, Makes}
use Rattle.rmt_table_model.specs.Tables.{TableView, IsSound}
use Rattle.rmt_table_model.specs.Changes.{after_note}
use Rattle.rmt_znodes.proofs.ZnodeStateLemmas.{Does, creates, sets, deletes, makes-more}
use Rattle.rmt_table_model.proofs.NodeLemmas.{does-as, makes-one}
use Rattle.rmt_table_model.specs.Nodes.{plain, status_text, expected, noted_count, met_count, version_limits, IsTreeOf, last_ops, noted_ops}
use Rattle.rmt_model.specs.Quorum.{Pending, Quorum as QuorumOf, quorum_blocks, IsPending, IsQuorum, noted_with, noted_by}
use Rattle.rmt_model.proofs.QuorumLemmas.{noted-length}
use Rattle.rmt_table_model.proofs.DropNodes.{makes-as}

module _ (bytes : Entry → List ℕ) (t : TreeView) (v : TableView) (of : IsTreeOf bytes t v) (sound : IsSound v) (r : ℕ) (q : Pending) (is : v.quorum.pending ≡ Some q) (new : Has q.noted r → ⊥) (small : length q.noted < 4294967295) (few : length (quorum_blocks v.log) < 4294967295) where
  abbrev noted : List ℕ
  noted = noted_with r q.noted

  -- the table with this quorum
  abbrev with_quorum : QuorumOf → TableView
  with_quorum k = record v { quorum = k }

  abbrev more : Pending
  more = record { part = q.part; need = q.need; noted = noted }

  status-was : expected bytes v Status ≡ Some (plain (status_text q))
  status-was = ap (option_map (λ o. plain (status_text o))) is

  some_asked : 1 ≤ length (quorum_blocks v.log)
  some_asked = let k : IsPending v.log (Some q) (IsQuorum.others sound.quorum) = subst (λ (o : Option Pending). IsPending v.log o (IsQuorum.others sound.quorum)) is (IsQuorum.pending sound.quorum) in let w = ap length k.0 in omega (arith, w)

  was-met : met_count v.quorum.pending (quorum_blocks v.log) ≡ length (quorum_blocks v.log) - 1
  was-met = ap (λ (o : Option Pending). met_count o (quorum_blocks v.log)) is

  was-noted : noted_count v.quorum.pending ≡ length q.noted
  was-noted = ap noted_count is

  -- too few: the status is set
  sets-status : Makes t (op.Set (znode_path Status) (status_text more) None ∷ []) (expected bytes (with_quorum (record { pending = Some more; last = v.quorum.last }))) (version_limits (with_quorum (record { pending = Some more; last = v.quorum.last })))
  sets-status = makes-one t (op.Set (znode_path Status) (status_text more) None) (expected bytes (with_quorum (record { pending = Some more; last = v.quorum.last }))) (version_limits (with_quorum (record { pending = Some more; last = v.quorum.last })))
      (does-as t (op.Set (znode_path Status) (status_text more) None) (with_state Status (plain (status_text more)) (expected bytes v)) (expected bytes (with_quorum (record { pending = Some more; last = v.quorum.last }))) (raised Status (version_limits v)) (version_limits (with_quorum (record { pending = Some more; last = v.quorum.last })))
      (sets t (expected bytes v) (version_limits v) of.nodes Status (plain (status_text q)) tt (status_text more) status-was (let w = was-noted in let l : last_version ≡ 18446744073709551615 = refl in omega (arith, w, small, l)))
      each bound)
    where
      each : (y : Znode) → IsZnode y → with_state Status (plain (status_text more)) (expected bytes v) y ≡ expected bytes (with_quorum (record { pending = Some more; last = v.quorum.last })) y
      each Log h = refl
      each (LogEntry i) h = refl
      each Blocks h = refl
      each (Block p d) h = refl
      each Order h = refl
      each (OrderOf i) h = refl
      each Numbers h = refl
      each (Partition p) h = refl
      each (Lock p k) h = refl
      each Mutations h = refl
      each (MutationNode i) h = refl
      each Quorum h = refl
      each Status h = refl
      each LastPart h = refl
      each Replicas h = refl
      each (Replica s) h = refl
      each (LogPointer s) h = refl
      each (IsActive s) h = refl

      bound : (y : Znode) → IsZnode y → raised Status (version_limits v) y ≤ version_limits (with_quorum (record { pending = Some more; last = v.quorum.last })) y
      bound Log h = omega arith
      bound (LogEntry i) h = omega arith
      bound Blocks h = omega arith
      bound (Block p d) h = omega arith
      bound Order h = omega arith
      bound (OrderOf i) h = omega arith
      bound Numbers h = omega arith
      bound (Partition p) h = omega arith
      bound (Lock p k) h = omega arith
      bound Mutations h = omega arith
      bound (MutationNode i) h = omega arith
      bound Quorum h = omega arith
      bound Status h = let a = was-noted in let b = noted-length r q.noted new in omega (arith, a, b)
      bound LastPart h = let a = was-met in omega (arith, a)
      bound Replicas h = omega arith
      bound (Replica s) h = omega arith
      bound (LogPointer s) h = omega arith
      bound (IsActive s) h = omega arith

  abbrev met_view : TableView
  met_view = with_quorum (record { pending = None; last = Some q.part })

  gone : Does t (op.Delete (znode_path Status) None) (without_state Status (expected bytes v)) (version_limits v)
  gone = deletes t (expected bytes v) (version_limits v) of.nodes Status (plain (status_text q)) tt refl status-was

  abbrev gone_tree : TreeView
  gone_tree = after t (op.Delete (znode_path Status) None)

  met-each : (y : Znode) → IsZnode y → with_state LastPart (plain (text_of q.part)) (without_state Status (expected bytes v)) y ≡ expected bytes met_view y
  met-each Log h = refl
  met-each (LogEntry i) h = refl
  met-each Blocks h = refl
  met-each (Block p d) h = refl
  met-each Order h = refl
  met-each (OrderOf i) h = refl
  met-each Numbers h = refl
  met-each (Partition p) h = refl
  met-each (Lock p k) h = refl
  met-each Mutations h = refl
  met-each (MutationNode i) h = refl
  met-each Quorum h = refl
  met-each Status h = refl
  met-each LastPart h = refl
  met-each Replicas h = refl
  met-each (Replica s) h = refl
  met-each (LogPointer s) h = refl
  met-each (IsActive s) h = refl

  created-bound : (y : Znode) → IsZnode y → (version_limits v y ≤ version_limits met_view y) ⊎ (with_state LastPart (plain (text_of q.part)) (without_state Status (expected bytes v)) y ≡ None)
  created-bound Log h = inl (omega arith)
  created-bound (LogEntry i) h = inl (omega arith)
  created-bound Blocks h = inl (omega arith)
  created-bound (Block p d) h = inl (omega arith)
  created-bound Order h = inl (omega arith)
  created-bound (OrderOf i) h = inl (omega arith)
  created-bound Numbers h = inl (omega arith)
  created-bound (Partition p) h = inl (omega arith)
  created-bound (Lock p k) h = inl (omega arith)
  created-bound Mutations h = inl (omega arith)
  created-bound (MutationNode i) h = inl (omega arith)
  created-bound Quorum h = inl (omega arith)
  created-bound Status h = inr refl
  created-bound LastPart h = inl (let a = was-met in omega (arith, a))
  created-bound Replicas h = inl (omega arith)
  created-bound (Replica s) h = inl (omega arith)
  created-bound (LogPointer s) h = inl (omega arith)
  created-bound (IsActive s) h = inl (omega arith)

  set-bound : (y : Znode) → IsZnode y → (raised LastPart (version_limits v) y ≤ version_limits met_view y) ⊎ (with_state LastPart (plain (text_of q.part)) (without_state Status (expected bytes v)) y ≡ None)
  set-bound Log h = inl (omega arith)
  set-bound (LogEntry i) h = inl (omega arith)
  set-bound Blocks h = inl (omega arith)
  set-bound (Block p d) h = inl (omega arith)
  set-bound Order h = inl (omega arith)
  set-bound (OrderOf i) h = inl (omega arith)
  set-bound Numbers h = inl (omega arith)
  set-bound (Partition p) h = inl (omega arith)
  set-bound (Lock p k) h = inl (omega arith)
  set-bound Mutations h = inl (omega arith)
  set-bound (MutationNode i) h = inl (omega arith)
  set-bound Quorum h = inl (omega arith)
  set-bound Status h = inr refl
  set-bound LastPart h = inl (let a = was-met in let b = some_asked in omega (arith, a, b))
  set-bound Replicas h = inl (omega arith)
  set-bound (Replica s) h = inl (omega arith)
  set-bound (LogPointer s) h = inl (omega arith)
  set-bound (IsActive s) h = inl (omega arith)

  -- enough: the status goes, and the last part is written
  writes-last : (last : Option Name) → v.quorum.last ≡ last → Makes t (op.Delete (znode_path Status) None ∷ last_ops q.part last) (expected bytes met_view) (version_limits met_view)
  writes-last None e =
      makes-as t (op.Delete (znode_path Status) None ∷ op.Create (znode_path LastPart) (text_of q.part) false None ∷ []) (with_state LastPart (plain (text_of q.part)) (without_state Status (expected bytes v))) (expected bytes met_view) (version_limits v) (version_limits met_view)
      (makes-more t (op.Delete (znode_path Status) None) (op.Create (znode_path LastPart) (text_of q.part) false None ∷ []) (without_state Status (expected bytes v)) (with_state LastPart (plain (text_of q.part)) (without_state Status (expected bytes v))) (version_limits v) (version_limits v) gone
      (makes-one gone_tree (op.Create (znode_path LastPart) (text_of q.part) false None) (with_state LastPart (plain (text_of q.part)) (without_state Status (expected bytes v))) (version_limits v)
      (creates gone_tree (without_state Status (expected bytes v)) (version_limits v) (Does.nodes gone) LastPart tt (text_of q.part) None tt (tt, (plain [], refl, refl)) (ap (option_map (λ a. plain (text_of a))) e))))
      met-each created-bound
  writes-last (Some a) e =
      makes-as t (op.Delete (znode_path Status) None ∷ op.Set (znode_path LastPart) (text_of q.part) None ∷ []) (with_state LastPart (plain (text_of q.part)) (without_state Status (expected bytes v))) (expected bytes met_view) (raised LastPart (version_limits v)) (version_limits met_view)
      (makes-more t (op.Delete (znode_path Status) None) (op.Set (znode_path LastPart) (text_of q.part) None ∷ []) (without_state Status (expected bytes v)) (with_state LastPart (plain (text_of q.part)) (without_state Status (expected bytes v))) (version_limits v) (raised LastPart (version_limits v)) gone
      (makes-one gone_tree (op.Set (znode_path LastPart) (text_of q.part) None) (with_state LastPart (plain (text_of q.part)) (without_state Status (expected bytes v))) (raised LastPart (version_limits v))
      (sets gone_tree (without_state Status (expected bytes v)) (version_limits v) (Does.nodes gone) LastPart (plain (text_of a)) tt (text_of q.part) (ap (option_map (λ b. plain (text_of b))) e) (let w = was-met in let l : last_version ≡ 18446744073709551615 = refl in omega (arith, w, few, l)))))
      met-each set-bound

  -- the multi of note_quorum
  pub note-makes : Makes t (noted_ops q noted v.quorum.last) (expected bytes (after_note r v)) (version_limits (after_note r v))
  note-makes = subst (λ (k : QuorumOf). Makes t (noted_ops q noted v.quorum.last) (expected bytes (with_quorum k)) (version_limits (with_quorum k))) (sym (ap (noted_by r v.quorum) is)) (go (nat_lt (length noted) q.need))
    where
      go : (b : Bool) → Makes t (cond b (op.Set (znode_path Status) (status_text more) None ∷ []) (op.Delete (znode_path Status) None ∷ last_ops q.part v.quorum.last)) (expected bytes (with_quorum (cond b (record { pending = Some more; last = v.quorum.last }) (record { pending = None; last = Some q.part })))) (version_limits (with_quorum (cond b (record { pending = Some more; last = v.quorum.last }) (record { pending = None; last = Some q.part }))))
      go true = sets-status
      go false = writes-last v.quorum.last refl
