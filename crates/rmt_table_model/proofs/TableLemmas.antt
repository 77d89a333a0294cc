-- Each call keeps a table in its tree.
use Rattle.std.proofs.Common.{◌≡◌, ◌≢◌, ℕ, suc, ◌+◌, ◌<◌, ◌≤◌, ◌||◌, ◌&&◌, Bool, true, false, cond, not, List, [], ◌∷◌, length, refl, sym, ap, subst, arith, ◌∙◌, nat_eq, nat_le, get_or, set}
use Rattle.std.proofs.lemmas.Bool.Decides.{nat_tests}
use Rattle.std.proofs.lemmas.List.{length-set, get_or-set_same, get_or-set_other}
use Rattle.std.proofs.lemmas.List.Sums.{sum_by-cons}
use Rattle.std.specs.FinSet as finset
use Rattle.std.specs.Ordering.{nat_cmp, eq_by_cmp}
use Rattle.std.specs.Cmp.{nat_cmp_total, unsigned_tied}
use Rattle.std.specs.declared.option.Option.{Option}
use Rattle.std.specs.declared.option.Option.TheVariants.{Some, None}
use Rattle.std.specs.Fmt.{decimal}
use Rattle.rmt_znodes.specs.Znodes.{entry_path}
use Rattle.rmt_model.specs.EntryLimits.{is_client, client_count, worker_count}
use Rattle.rmt_model.specs.BlockNumbers.{next_number}
use Rattle.rmt_names.specs.Names.{Name, block_name, merged_name}
use Rattle.rmt_entries.specs.declared.entry.Entry.{Entry}
use Rattle.rmt_entries.specs.declared.entry.Entry.TheVariants.{Get, Merge, Mutate, Mutation, DropRange}
use Rattle.rmt_values.specs.declared.checked_mutation.CheckedMutation.{CheckedMutation}
use Rattle.rmt_model.specs.Words.{Has}
use Rattle.rmt_model.specs.Lawful.{block_count, mutations_through}
use Rattle.rmt_tree.specs.Trees.{TreeView, is_open, opened, ended, IsLeastFree}
use Rattle.rmt_tree.specs.Ops.{after, after_all}
use Rattle.rmt_tree.specs.declared.op.Op.{Op}
use Rattle.rmt_tree.specs.declared.op.Op.TheVariants as op
use Rattle.rmt_znodes.specs.declared.znode.Znode.TheVariants.{IsActive, Lock, LogPointer}
use Rattle.rmt_znodes.specs.Znodes.{znode_path}
use Rattle.rmt_znodes.specs.ZnodeStates.{Makes, HasZnodes}
use Rattle.rmt_znodes.proofs.ZnodeStateLemmas.{has_znodes-sessions}
use Rattle.rmt_table_model.specs.Numbers.{IsLocked}
use Rattle.rmt_model.specs.Quorum.{Pending, quorum_blocks, noted_with}
use Rattle.rmt_table_model.specs.Kept.{get_count, is_get}
use Rattle.rmt_table_model.specs.Tables.{TableView, IsSound, IsOpen, session_of}
use Rattle.rmt_table_model.specs.Changes.{after_allocate, after_commit, after_abandon, after_mutation, after_drop, after_merge, after_mutate, after_open, after_close, after_pull, after_note, MayAllocate, MayCommit, MayMutate, MayDrop, MayMerge, MayMutateOne, MayOpen}
use Rattle.rmt_table_model.specs.Steps.{Steps}
use Rattle.rmt_table_model.specs.Nodes.{expected, version_limits, IsTreeOf, IsTable, AreLocks, allocate_ops, commit_ops, drop_ops, mutation_ops, noted_ops}
use Rattle.rmt_table_model.proofs.SoundLemmas.{sound-allocate, sound-commit, sound-abandon, sound-mutation, sound-drop, sound-merge, sound-mutate, sound-open, sound-close, sound-pull, sound-note}
use Rattle.rmt_table_model.proofs.NodeLemmas.{allocate-makes}
use Rattle.rmt_table_model.proofs.StepNodes.{abandon-makes, merge-makes, mutate-makes, pull-makes, open-makes, close-makes}
use Rattle.rmt_table_model.proofs.CommitNodes.{commit-makes}
use Rattle.rmt_table_model.proofs.DropNodes.{drop-makes}
use Rattle.rmt_table_model.proofs.MutationNodes.{mutation-makes}
use Rattle.rmt_table_model.proofs.NoteNodes.{note-makes}
use Rattle.rmt_table_model.proofs.KeptLemmas.{gets-next}

-- ---- lengths

all-entries : (log : List Entry) → length log ≡ client_count log + worker_count log
all-entries [] = refl
all-entries (e ∷ log) =
    let a = all-entries log in
    let b = sum_by-cons (λ x. cond (is_client x) 1 0) e log in
    let c = sum_by-cons (λ x. cond (not (is_client x)) 1 0) e log in
    let d = kind e in
    omega (arith, a, b, c, d)
  where
    kind : (e : Entry) → cond (is_client e) 1 0 + cond (not (is_client e)) 1 0 ≡ 1
    kind (Get p n digest source need) = refl
    kind (Merge new sources count) = refl
    kind (Mutate old new upto count mcount) = refl
    kind (Mutation id numbers command) = refl
    kind (DropRange p n) = refl

gets-clients : (log : List Entry) → get_count log ≤ client_count log
gets-clients [] = omega arith
gets-clients (e ∷ log) =
    let a = gets-clients log in
    let b = sum_by-cons (λ x. cond (is_client x) 1 0) e log in
    let c = gets-next e log in
    let d = kind e in
    omega (arith, a, b, c, d)
  where
    kind : (e : Entry) → cond (is_get e) 1 0 ≤ cond (is_client e) 1 0
    kind (Get p n digest source need) = omega arith
    kind (Merge new sources count) = omega arith
    kind (Mutate old new upto count mcount) = omega arith
    kind (Mutation id numbers command) = omega arith
    kind (DropRange p n) = omega arith

quorum_blocks-gets : (log : List Entry) → length (quorum_blocks log) ≤ get_count log
quorum_blocks-gets [] = omega arith
quorum_blocks-gets (Get p n digest source need ∷ log) = go (nat_le 2 need) (quorum_blocks-gets log) (gets-next (Get p n digest source need) log)
  where
    go : (b : Bool) → length (quorum_blocks log) ≤ get_count log → get_count (Get p n digest source need ∷ log) ≡ 1 + get_count log → length (cond b (record { part = block_name p n; need = need } ∷ quorum_blocks log) (quorum_blocks log)) ≤ get_count (Get p n digest source need ∷ log)
    go true a c = omega (arith, a, c)
    go false a c = omega (arith, a, c)
quorum_blocks-gets (Merge new sources count ∷ log) = let a = quorum_blocks-gets log in let c = gets-next (Merge new sources count) log in omega (arith, a, c)
quorum_blocks-gets (Mutate old new upto count mcount ∷ log) = let a = quorum_blocks-gets log in let c = gets-next (Mutate old new upto count mcount) log in omega (arith, a, c)
quorum_blocks-gets (Mutation id numbers command ∷ log) = let a = quorum_blocks-gets log in let c = gets-next (Mutation id numbers command) log in omega (arith, a, c)
quorum_blocks-gets (DropRange p n ∷ log) = let a = quorum_blocks-gets log in let c = gets-next (DropRange p n) log in omega (arith, a, c)

-- a sound table's log is short
short : (v : TableView) → IsSound v → length v.log < 4294967295
short v s = let a = all-entries v.log in let b = s.within.client_entries in let c = s.within.worker_entries in omega (arith, a, b, c)

few-gets : (v : TableView) → IsSound v → get_count v.log < 4294967295
few-gets v s = let a = gets-clients v.log in let b = s.within.client_entries in omega (arith, a, b)

few-quorum_blocks : (v : TableView) → IsSound v → length (quorum_blocks v.log) < 4294967295
few-quorum_blocks v s = let a = quorum_blocks-gets v.log in let b = few-gets v s in omega (arith, a, b)

-- ---- trees

pub same-sessions : (t : TreeView) (ops : List Op) → (after_all t ops).sessions ≡ t.sessions
same-sessions t [] = refl
same-sessions t (o ∷ ops) = same-sessions (after t o) ops

-- the tree after a multi
tree-of : (bytes : Entry → List ℕ) (t : TreeView) (v w : TableView) (ops : List Op) → IsTreeOf bytes t v → Makes t ops (expected bytes w) (version_limits w) → w.sessions ≡ v.sessions → IsTreeOf bytes (after_all t ops) w
tree-of bytes t v w ops of makes same = record {
  nodes = makes.nodes;
  sessions = λ s. (
    λ o. subst (λ (xs : List (Option ℕ)). IsOpen xs s) (sym same) ((of.sessions s).0 (ap (λ (k : finset.FinSet nat_cmp). finset.contains k s) (sym (same-sessions t ops)) ∙ o)),
    λ o. ap (λ (k : finset.FinSet nat_cmp). finset.contains k s) (same-sessions t ops) ∙ (of.sessions s).1 (subst (λ (xs : List (Option ℕ)). IsOpen xs s) same o),
  );
}

steps-of : (bytes : Entry → List ℕ) (t : TreeView) (v w : TableView) (ops : List Op) → IsTable bytes t v → Makes t ops (expected bytes w) (version_limits w) → IsSound w → w.sessions ≡ v.sessions → length w.pulled ≡ length v.pulled → Steps bytes t ops w
steps-of bytes t v w ops is makes sound same pulled = record {
  makes = makes;
  table = record {
    tree = tree-of bytes t v w ops is.tree makes same;
    sound = sound;
    same_many = pulled ∙ is.same_many ∙ ap length (sym same);
    few = let q = ap length same in let f = is.few in omega (arith, q, f);
  };
}

-- ---- the calls

pub allocate-steps : (bytes : Entry → List ℕ) (t : TreeView) (v : TableView) → IsTable bytes t v → (p : Option ℕ) (s : ℕ) → MayAllocate p s v → Steps bytes t (allocate_ops p s v) (after_allocate p s v)
allocate-steps bytes t v is p s m = steps-of bytes t v (after_allocate p s v) (allocate_ops p s v) is (allocate-makes bytes t v p s is.tree is.sound m) (sound-allocate v is.sound p s m) refl refl

pub commit-steps : (bytes : Entry → List ℕ) (t : TreeView) (v : TableView) → IsTable bytes t v → (p : Option ℕ) (n : ℕ) (digest : List ℕ) (source need values : ℕ) → MayCommit p n digest need values v → Steps bytes t (commit_ops bytes p n digest source need v) (after_commit p n digest source need values v)
commit-steps bytes t v is p n digest source need values m = steps-of bytes t v (after_commit p n digest source need values v) (commit_ops bytes p n digest source need v) is
    (commit-makes bytes t v is.tree is.sound p n digest source need values m (short v is.sound) (few-gets v is.sound)) (sound-commit v is.sound p n digest source need values m) refl refl

pub abandon-steps : (bytes : Entry → List ℕ) (t : TreeView) (v : TableView) → IsTable bytes t v → (p : Option ℕ) (n : ℕ) → IsLocked v.holders p n → Steps bytes t (op.Delete (znode_path (Lock p n)) None ∷ []) (after_abandon p n v)
abandon-steps bytes t v is p n h = steps-of bytes t v (after_abandon p n v) (op.Delete (znode_path (Lock p n)) None ∷ []) is (abandon-makes bytes t v p n is.tree is.sound h) (sound-abandon v is.sound p n) refl refl

pub mutation-steps : (bytes : Entry → List ℕ) (t : TreeView) (v : TableView) → IsTable bytes t v → (command : CheckedMutation) → MayMutate command v → Steps bytes t (mutation_ops bytes command v) (after_mutation command v)
mutation-steps bytes t v is command m = steps-of bytes t v (after_mutation command v) (mutation_ops bytes command v) is (mutation-makes bytes t v is.tree is.sound command m (short v is.sound)) (sound-mutation v is.sound command m) refl refl

pub drop-steps : (bytes : Entry → List ℕ) (t : TreeView) (v : TableView) → IsTable bytes t v → (p : Option ℕ) (locks : List ℕ) → MayDrop p v → AreLocks v.holders p (next_number v.next p) locks → Steps bytes t (drop_ops bytes p locks v) (after_drop p v)
drop-steps bytes t v is p locks m are = steps-of bytes t v (after_drop p v) (drop_ops bytes p locks v) is (drop-makes bytes t v is.tree is.sound p m locks are (short v is.sound) (few-gets v is.sound)) (sound-drop v is.sound p m) refl refl

pub merge-steps : (bytes : Entry → List ℕ) (t : TreeView) (v : TableView) → IsTable bytes t v → (a b : Name) (rest : List Name) → MayMerge a b rest v
    → Steps bytes t (op.Create entry_path (bytes (Merge (merged_name a (b ∷ rest)) (a ∷ b ∷ rest) (block_count v.log (merged_name a (b ∷ rest))))) true None ∷ []) (after_merge a (b ∷ rest) v)
merge-steps bytes t v is a b rest m = steps-of bytes t v (after_merge a (b ∷ rest) v) (op.Create entry_path (bytes (Merge (merged_name a (b ∷ rest)) (a ∷ b ∷ rest) (block_count v.log (merged_name a (b ∷ rest))))) true None ∷ []) is
    (merge-makes bytes t v (merged_name a (b ∷ rest)) (a ∷ b ∷ rest) (block_count v.log (merged_name a (b ∷ rest))) is.tree (short v is.sound)) (sound-merge v is.sound a b rest m) refl refl

pub mutate-steps : (bytes : Entry → List ℕ) (t : TreeView) (v : TableView) → IsTable bytes t v → (old : Name) (number upto : ℕ) → MayMutateOne old number upto v
    → Steps bytes t (op.Create entry_path (bytes (Mutate old (record old { mutation = number }) upto (block_count v.log old) (mutations_through v.log upto))) true None ∷ []) (after_mutate old number upto v)
mutate-steps bytes t v is old number upto m = steps-of bytes t v (after_mutate old number upto v) (op.Create entry_path (bytes (Mutate old (record old { mutation = number }) upto (block_count v.log old) (mutations_through v.log upto))) true None ∷ []) is
    (mutate-makes bytes t v old (record old { mutation = number }) upto (block_count v.log old) (mutations_through v.log upto) is.tree (short v is.sound)) (sound-mutate v is.sound old number upto m) refl refl

pub pull-steps : (bytes : Entry → List ℕ) (t : TreeView) (v : TableView) → IsTable bytes t v → (r : ℕ) → r < length v.sessions → get_or v.pulled r 0 ≢ length v.log → Steps bytes t (op.Set (znode_path (LogPointer (suc r))) (decimal (length v.log)) None ∷ []) (after_pull r v)
pull-steps bytes t v is r here other = steps-of bytes t v (after_pull r v) (op.Set (znode_path (LogPointer (suc r))) (decimal (length v.log)) None ∷ []) is
    (pull-makes bytes t v r is.tree is.sound (short v is.sound) (let q = is.same_many in omega (arith, q, here)) (let f = is.few in omega (arith, f, here)) other) (sound-pull v is.sound r) refl (length-set v.pulled r (length v.log))

pub note-steps : (bytes : Entry → List ℕ) (t : TreeView) (v : TableView) → IsTable bytes t v → (r : ℕ) (q : Pending) → v.quorum.pending ≡ Some q → (Has q.noted r → ⊥) → length q.noted < 4294967295 → Steps bytes t (noted_ops q (noted_with r q.noted) v.quorum.last) (after_note r v)
note-steps bytes t v is r q e new small = steps-of bytes t v (after_note r v) (noted_ops q (noted_with r q.noted) v.quorum.last) is (note-makes bytes t v is.tree is.sound r q e new small (few-quorum_blocks v is.sound)) (sound-note v is.sound r) refl refl

-- ---- sessions

at-other : (xs : List (Option ℕ)) (r k : ℕ) (o : Option ℕ) → nat_eq k r ≡ false → session_of (set xs r o) k ≡ session_of xs k
at-other xs r k o h = get_or-set_other xs r k o None (λ e. grind (arith, nat_tests))

at-same : (xs : List (Option ℕ)) (r k : ℕ) (o : Option ℕ) → nat_eq k r ≡ true → r < length xs → session_of (set xs r o) k ≡ o
at-same xs r k o h l = let e : k ≡ r = grind (arith, nat_tests) in ap (λ (j : ℕ). get_or (set xs r o) j None) e ∙ get_or-set_same xs r o None l

same-number : (m n : ℕ) → eq_by_cmp nat_cmp m n ≡ nat_eq m n
same-number m n = unsigned_tied m n

pub opened-at : (t : TreeView) (n s : ℕ) → is_open (opened t n) s ≡ (nat_eq s n || is_open t s)
opened-at t n s = finset.contains-insert nat_cmp_total t.sessions n s ∙ ap (λ (b : Bool). b || is_open t s) (same-number s n)

pub ended-at : (t : TreeView) (n s : ℕ) → is_open (ended t n) s ≡ (not (nat_eq s n) && is_open t s)
ended-at t n s = finset.contains-remove nat_cmp_total t.sessions n s ∙ ap (λ (b : Bool). not b && is_open t s) (same-number s n)

pub open-steps : (bytes : Entry → List ℕ) (t : TreeView) (v : TableView) → IsTable bytes t v → (r n : ℕ) → r < length v.sessions → session_of v.sessions r ≡ None → IsLeastFree t n
    → Steps bytes (opened t n) (op.Create (znode_path (IsActive (suc r))) [] false (Some n) ∷ []) (after_open r n v)
open-steps bytes t v is r n here none least = record { makes = makes; table = table }
  where
    has_znodes : HasZnodes (opened t n) (expected bytes v) (version_limits v)
    has_znodes = has_znodes-sessions t (opened t n) (expected bytes v) (version_limits v) refl is.tree.nodes

    makes : Makes (opened t n) (op.Create (znode_path (IsActive (suc r))) [] false (Some n) ∷ []) (expected bytes (after_open r n v)) (version_limits (after_open r n v))
    makes = open-makes bytes (opened t n) v r n has_znodes (opened-at t n n ∙ ap (λ (b : Bool). b || is_open t n) (let w : nat_eq n n ≡ true = grind (arith, nat_tests) in w)) here (let f = is.few in omega (arith, f, here)) none

    may : MayOpen r n v
    may = record { is_here = here; is_new = λ o. let e = (is.tree.sessions n).1 o in let q : true ≡ false = sym e ∙ least.free in cc }

    forth : (s : ℕ) → is_open (opened t n) s ≡ true → IsOpen (set v.sessions r (Some n)) s
    forth s o = go (nat_eq s n) refl (sym (opened-at t n s) ∙ o)
      where
        go : (b : Bool) → nat_eq s n ≡ b → (b || is_open t s) ≡ true → IsOpen (set v.sessions r (Some n)) s
        go true e h = (r, at-same v.sessions r r (Some n) (let w : nat_eq r r ≡ true = grind (arith, nat_tests) in w) here ∙ ap Some (let w : n ≡ s = grind (arith, nat_tests) in w))
        go false e h = let k = (is.tree.sessions s).0 h in (k.0, other k (nat_eq k.0 r) refl)
          where
            other : (k : IsOpen v.sessions s) (c : Bool) → nat_eq k.0 r ≡ c → session_of (set v.sessions r (Some n)) k.0 ≡ Some s
            other k true f = let w : k.0 ≡ r = grind (arith, nat_tests) in let q : ◌≡◌ {A = Option ℕ} None (Some s) = sym none ∙ ap (session_of v.sessions) (sym w) ∙ k.1 in absurd (cc)
            other k false f = at-other v.sessions r k.0 (Some n) f ∙ k.1

    back : (s : ℕ) → IsOpen (set v.sessions r (Some n)) s → is_open (opened t n) s ≡ true
    back s k = opened-at t n s ∙ go (nat_eq k.0 r) refl
      where
        go : (c : Bool) → nat_eq k.0 r ≡ c → (nat_eq s n || is_open t s) ≡ true
        go true f = let q : ◌≡◌ {A = Option ℕ} (Some n) (Some s) = sym (at-same v.sessions r k.0 (Some n) f here) ∙ k.1 in let w : n ≡ s = cc in ap (λ (b : Bool). b || is_open t s) (let z : nat_eq s n ≡ true = grind (arith, nat_tests) in z)
        go false f = both (nat_eq s n) ((is.tree.sessions s).1 (k.0, sym (at-other v.sessions r k.0 (Some n) f) ∙ k.1))
          where
            both : (b : Bool) → is_open t s ≡ true → (b || is_open t s) ≡ true
            both true e = refl
            both false e = e

    table : IsTable bytes (after_all (opened t n) (op.Create (znode_path (IsActive (suc r))) [] false (Some n) ∷ [])) (after_open r n v)
    table = record {
      tree = record { nodes = makes.nodes; sessions = λ s. (forth s, back s) };
      sound = sound-open v is.sound r n none may;
      same_many = is.same_many ∙ sym (length-set v.sessions r (Some n));
      few = let q = length-set v.sessions r (Some n) in let f = is.few in omega (arith, q, f);
    }

pub close-steps : (bytes : Entry → List ℕ) (t : TreeView) (v : TableView) → IsTable bytes t v → (r n : ℕ) → r < length v.sessions → session_of v.sessions r ≡ Some n → IsTable bytes (ended t n) (after_close r n v)
close-steps bytes t v is r n here was = record {
  tree = record { nodes = close-makes bytes t v r n is.tree.nodes is.sound here was; sessions = λ s. (forth s, back s) };
  sound = sound-close v is.sound r n here was;
  same_many = is.same_many ∙ sym (length-set v.sessions r None);
  few = let q = length-set v.sessions r None in let f = is.few in omega (arith, q, f);
}
  where
    forth : (s : ℕ) → is_open (ended t n) s ≡ true → IsOpen (set v.sessions r None) s
    forth s o = go (nat_eq s n) refl (sym (ended-at t n s) ∙ o)
      where
        go : (b : Bool) → nat_eq s n ≡ b → (not b && is_open t s) ≡ true → IsOpen (set v.sessions r None) s
        go true e h = absurd (cc)
        go false e h = let k = (is.tree.sessions s).0 h in (k.0, other k (nat_eq k.0 r) refl)
          where
            other : (k : IsOpen v.sessions s) (c : Bool) → nat_eq k.0 r ≡ c → session_of (set v.sessions r None) k.0 ≡ Some s
            other k true f = let w : k.0 ≡ r = grind (arith, nat_tests) in let q : ◌≡◌ {A = Option ℕ} (Some n) (Some s) = sym was ∙ ap (session_of v.sessions) (sym w) ∙ k.1 in let z : n ≡ s = cc in absurd (grind (arith, nat_tests))
            other k false f = at-other v.sessions r k.0 None f ∙ k.1

    back : (s : ℕ) → IsOpen (set v.sessions r None) s → is_open (ended t n) s ≡ true
    back s k = ended-at t n s ∙ go (nat_eq k.0 r) refl
      where
        go : (c : Bool) → nat_eq k.0 r ≡ c → (not (nat_eq s n) && is_open t s) ≡ true
        go true f = let q : ◌≡◌ {A = Option ℕ} None (Some s) = sym (at-same v.sessions r k.0 None f here) ∙ k.1 in absurd (cc)
        go false f =
            let old : session_of v.sessions k.0 ≡ Some s = sym (at-other v.sessions r k.0 None f) ∙ k.1 in
            let e = (is.tree.sessions s).1 (k.0, old) in
            different old (nat_eq s n) refl e
          where
            different : session_of v.sessions k.0 ≡ Some s → (b : Bool) → nat_eq s n ≡ b → is_open t s ≡ true → (not b && is_open t s) ≡ true
            different old true g e = let w : s ≡ n = grind (arith, nat_tests) in let q = is.sound.own k.0 r n (old ∙ ap Some w) was in absurd (grind (arith, nat_tests))
            different old false g e = e
