-- What the calls that change one node make of the nodes.
use Rattle.std.proofs.Common.{◌≡◌, ◌≢◌, ℕ, zero, suc, ◌<◌, ◌≤◌, inr, ◌&&◌, Bool, true, false, cond, not, List, [], ◌∷◌, length, refl, sym, ap, arith, ◌∙◌, nat_eq, get_or, set}
use Rattle.std.proofs.lemmas.Bool.Decides.{nat_tests}
use Rattle.std.specs.declared.option.Option.{Option}
use Rattle.std.specs.declared.option.Option.TheVariants.{Some, None}
use Rattle.std.specs.Option.{option_map, option_and_then}
use Rattle.std.specs.Fmt.{decimal}
use Rattle.rmt_znodes.specs.Znodes.{entry_path}
use Rattle.rmt_names.specs.Names.{Name, rank}
use Rattle.rmt_names.specs.Texts.{text_of}
use Rattle.rmt_entries.specs.declared.entry.Entry.{Entry}
use Rattle.rmt_entries.specs.declared.entry.Entry.TheVariants.{Merge, Mutate}
use Rattle.rmt_model.specs.Lawful.{entry_at}
use Rattle.rmt_model.proofs.Drops.{entry-below}
use Rattle.rmt_tree.specs.Trees.{TreeView, is_open, is_session}
use Rattle.rmt_tree.specs.Ops.{last_version}
use Rattle.rmt_tree.specs.declared.op.Op.TheVariants as op
use Rattle.rmt_znodes.specs.declared.znode.Znode.{Znode}
use Rattle.rmt_znodes.specs.declared.znode.Znode.TheVariants.{Log, LogEntry, Blocks, Block, Order, OrderOf, Numbers, Partition, Lock, Mutations, MutationNode, Quorum, Status, LastPart, Replicas, Replica, LogPointer, IsActive}
use Rattle.rmt_znodes.specs.Znodes.{id_text, znode_path, IsZnode}
use Rattle.rmt_znodes.specs.ZnodeStates.{ZnodeState, ZnodeStates, with_state, without_state, is_held_by, without_held, Limits, raised, HasZnodes, Makes}
use Rattle.rmt_znodes.proofs.ZnodeStateLemmas.{has_znodes-as, Does, creates, with_counted, creates-numbered, sets, deletes, ends}
use Rattle.rmt_table_model.specs.Numbers.{Holders, IsLocked, next_of, unlocked, owner_but, unlocked_by}
use Rattle.rmt_table_model.specs.Kept.{in_order, with_id, with_number}
use Rattle.rmt_table_model.specs.Tables.{TableView, IsSound, session_of}
use Rattle.rmt_table_model.specs.Changes.{after_abandon, after_open, after_close, after_pull}
use Rattle.rmt_table_model.specs.Nodes.{plain, counting, owned, slot, mutation_place, status_text, expected, or_zero, version_limits, IsTreeOf}
use Rattle.rmt_tree.specs.Trees.{ended}
use Rattle.rmt_table_model.proofs.NodeLemmas.{does-as, makes-one, limits-rise}

-- ---- one lock goes

-- a lock that is there is a node
pub lock-znode : (v : TableView) → IsSound v → (p : Option ℕ) (n : ℕ) → IsLocked v.holders p n → IsZnode (Lock p n)
lock-znode v s p n h = let r = s.given p n (inr h) in (s.partitions p r.0 r.1, let w = s.within.numbers p r.0 r.1 in let u = r.2 in omega (arith, w, u))

pub unlocks : (h : Holders) (p : Option ℕ) (n : ℕ) (q : Option ℕ) (k : ℕ) → cond (nat_eq (rank q) (rank p) && nat_eq k n) None (option_map owned (h q k)) ≡ option_map owned (unlocked h p n q k)
unlocks h p n q k = go (nat_eq (rank q) (rank p) && nat_eq k n)
  where
    go : (b : Bool) → cond b None (option_map owned (h q k)) ≡ option_map owned (cond b None (h q k))
    go true = refl
    go false = refl

-- the multi of abandon
pub abandon-makes : (bytes : Entry → List ℕ) (t : TreeView) (v : TableView) (p : Option ℕ) (n : ℕ) → IsTreeOf bytes t v → IsSound v → IsLocked v.holders p n
    → Makes t (op.Delete (znode_path (Lock p n)) None ∷ []) (expected bytes (after_abandon p n v)) (version_limits (after_abandon p n v))
abandon-makes bytes t v p n of sound h = makes-one t (op.Delete (znode_path (Lock p n)) None) (expected bytes (after_abandon p n v)) (version_limits (after_abandon p n v))
    (does-as t (op.Delete (znode_path (Lock p n)) None) (without_state (Lock p n) (expected bytes v)) (expected bytes (after_abandon p n v)) (version_limits v) (version_limits (after_abandon p n v))
    (deletes t (expected bytes v) (version_limits v) of.nodes (Lock p n) (owned h.0) (lock-znode v sound p n h) refl (ap (option_map owned) h.1))
    each (λ y k. limits-rise v (after_abandon p n v) (λ s. omega arith) (omega arith) (omega arith) y))
  where
    each : (y : Znode) → IsZnode y → without_state (Lock p n) (expected bytes v) y ≡ expected bytes (after_abandon p n v) y
    each Log h = refl
    each (LogEntry i) h = refl
    each Blocks h = refl
    each (Block q d) h = refl
    each Order h = refl
    each (OrderOf i) h = refl
    each Numbers h = refl
    each (Partition q) h = refl
    each (Lock q k) h = unlocks v.holders p n q k
    each Mutations h = refl
    each (MutationNode i) h = refl
    each Quorum h = refl
    each Status h = refl
    each LastPart h = refl
    each Replicas h = refl
    each (Replica r) h = refl
    each (LogPointer r) h = refl
    each (IsActive r) h = refl

-- ---- one entry more

-- no entry stands at the length
pub no-entry : (log : List Entry) → entry_at log (length log) ≡ None
no-entry log = go (entry_at log (length log)) refl
  where
    go : (o : Option Entry) → entry_at log (length log) ≡ o → entry_at log (length log) ≡ None
    go None e = e
    go (Some x) e = let w = entry-below log (length log) x e in absurd (omega (arith, w))

-- the log's node is made
pub appends : (t : TreeView) (states : ZnodeStates) (limits : Limits) (n : ℕ) (value : List ℕ) → HasZnodes t states limits → states Log ≡ Some (counting n) → states (LogEntry n) ≡ None → n < 4294967295
    → Does t (op.Create entry_path value true None) (with_state (LogEntry n) (plain value) (with_counted Log (counting n) states)) limits
appends t states limits n value m log none room = creates-numbered t states limits m entry_path (LogEntry n) Log (counting n) (omega (arith, room)) tt value None tt refl log refl refl room none

pub appended : (bytes : Entry → List ℕ) (e : Entry) (log : List Entry) (i : ℕ) → cond (nat_eq i (length log)) (Some (plain (bytes e))) (option_map (λ x. plain (bytes x)) (entry_at log i)) ≡ option_map (λ x. plain (bytes x)) (entry_at (e ∷ log) i)
appended bytes e log i = go (nat_eq i (length log))
  where
    go : (b : Bool) → cond b (Some (plain (bytes e))) (option_map (λ x. plain (bytes x)) (entry_at log i)) ≡ option_map (λ x. plain (bytes x)) (cond b (Some e) (entry_at log i))
    go true = refl
    go false = refl

-- the multi of assign_merge
pub merge-makes : (bytes : Entry → List ℕ) (t : TreeView) (v : TableView) (new : Name) (sources : List Name) (count : ℕ) → IsTreeOf bytes t v → length v.log < 4294967295
    → Makes t (op.Create entry_path (bytes (Merge new sources count)) true None ∷ []) (expected bytes (record v { log = Merge new sources count ∷ v.log })) (version_limits (record v { log = Merge new sources count ∷ v.log }))
merge-makes bytes t v new sources count of room = makes-one t (op.Create entry_path (bytes (Merge new sources count)) true None) (expected bytes (record v { log = Merge new sources count ∷ v.log })) (version_limits (record v { log = Merge new sources count ∷ v.log }))
    (does-as t (op.Create entry_path (bytes (Merge new sources count)) true None) (with_state (LogEntry (length v.log)) (plain (bytes (Merge new sources count))) (with_counted Log (counting (length v.log)) (expected bytes v))) (expected bytes (record v { log = Merge new sources count ∷ v.log })) (version_limits v) (version_limits (record v { log = Merge new sources count ∷ v.log }))
    (appends t (expected bytes v) (version_limits v) (length v.log) (bytes (Merge new sources count)) of.nodes refl (ap (option_map (λ x. plain (bytes x))) (no-entry v.log)) room)
    each (λ y k. limits-rise v (record v { log = Merge new sources count ∷ v.log }) (λ s. omega arith) (omega arith) (omega arith) y))
  where
    each : (y : Znode) → IsZnode y → with_state (LogEntry (length v.log)) (plain (bytes (Merge new sources count))) (with_counted Log (counting (length v.log)) (expected bytes v)) y ≡ expected bytes (record v { log = Merge new sources count ∷ v.log }) y
    each Log h = refl
    each (LogEntry i) h = appended bytes (Merge new sources count) v.log i
    each Blocks h = refl
    each (Block q d) h = refl
    each Order h = refl
    each (OrderOf i) h = refl
    each Numbers h = refl
    each (Partition q) h = refl
    each (Lock q k) h = refl
    each Mutations h = refl
    each (MutationNode i) h = refl
    each Quorum h = refl
    each Status h = refl
    each LastPart h = refl
    each Replicas h = refl
    each (Replica r) h = refl
    each (LogPointer r) h = refl
    each (IsActive r) h = refl

-- the multi of assign_mutate
pub mutate-makes : (bytes : Entry → List ℕ) (t : TreeView) (v : TableView) (old new : Name) (upto count mcount : ℕ) → IsTreeOf bytes t v → length v.log < 4294967295
    → Makes t (op.Create entry_path (bytes (Mutate old new upto count mcount)) true None ∷ []) (expected bytes (record v { log = Mutate old new upto count mcount ∷ v.log })) (version_limits (record v { log = Mutate old new upto count mcount ∷ v.log }))
mutate-makes bytes t v old new upto count mcount of room = makes-one t (op.Create entry_path (bytes (Mutate old new upto count mcount)) true None) (expected bytes (record v { log = Mutate old new upto count mcount ∷ v.log })) (version_limits (record v { log = Mutate old new upto count mcount ∷ v.log }))
    (does-as t (op.Create entry_path (bytes (Mutate old new upto count mcount)) true None) (with_state (LogEntry (length v.log)) (plain (bytes (Mutate old new upto count mcount))) (with_counted Log (counting (length v.log)) (expected bytes v))) (expected bytes (record v { log = Mutate old new upto count mcount ∷ v.log })) (version_limits v) (version_limits (record v { log = Mutate old new upto count mcount ∷ v.log }))
    (appends t (expected bytes v) (version_limits v) (length v.log) (bytes (Mutate old new upto count mcount)) of.nodes refl (ap (option_map (λ x. plain (bytes x))) (no-entry v.log)) room)
    each (λ y k. limits-rise v (record v { log = Mutate old new upto count mcount ∷ v.log }) (λ s. omega arith) (omega arith) (omega arith) y))
  where
    each : (y : Znode) → IsZnode y → with_state (LogEntry (length v.log)) (plain (bytes (Mutate old new upto count mcount))) (with_counted Log (counting (length v.log)) (expected bytes v)) y ≡ expected bytes (record v { log = Mutate old new upto count mcount ∷ v.log }) y
    each Log h = refl
    each (LogEntry i) h = appended bytes (Mutate old new upto count mcount) v.log i
    each Blocks h = refl
    each (Block q d) h = refl
    each Order h = refl
    each (OrderOf i) h = refl
    each Numbers h = refl
    each (Partition q) h = refl
    each (Lock q k) h = refl
    each Mutations h = refl
    each (MutationNode i) h = refl
    each Quorum h = refl
    each Status h = refl
    each LastPart h = refl
    each Replicas h = refl
    each (Replica r) h = refl
    each (LogPointer r) h = refl
    each (IsActive r) h = refl

-- ---- what replicas have

apart : {A : Type 0} (m n : ℕ) (x y : A) → m ≢ n → y ≡ cond (nat_eq m n) x y
apart m n x y h = sym (ap (λ (b : Bool). cond b x y) (let w : nat_eq m n ≡ false = grind (arith, nat_tests) in w))

slot-set : {A : Type 0} (xs : List A) (i : ℕ) (a : A) (r : ℕ) → i < length xs → slot (set xs i a) r ≡ cond (nat_eq r (suc i)) (Some a) (slot xs r)
slot-set xs i a zero l = apart zero (suc i) (Some a) None (λ e. omega (arith, e))
slot-set [] i a (suc r) l = absurd (omega (arith, l))
slot-set (x ∷ xs) zero a (suc zero) l = refl
slot-set (x ∷ xs) zero a (suc (suc r)) l = apart (suc (suc r)) 1 (Some a) (slot (x ∷ xs) (suc (suc r))) (λ e. omega (arith, e))
slot-set (x ∷ xs) (suc i) a (suc zero) l = apart 1 (suc (suc i)) (Some a) (Some x) (λ e. omega (arith, e))
slot-set (x ∷ xs) (suc i) a (suc (suc r)) l =
    slot-set xs i a (suc r) (omega (arith, l)) ∙ ap (λ (b : Bool). cond b (Some a) (slot xs (suc r))) (let w : nat_eq (suc r) (suc i) ≡ nat_eq (suc (suc r)) (suc (suc i)) = grind (arith, nat_tests) in w)

slot-at : {A : Type 0} (xs : List A) (i : ℕ) (d : A) → i < length xs → slot xs (suc i) ≡ Some (get_or xs i d)
slot-at [] i d l = absurd (omega (arith, l))
slot-at (x ∷ xs) zero d l = refl
slot-at (x ∷ xs) (suc i) d l = slot-at xs i d (omega (arith, l))

-- the multi of pull, where the replica has another length
pub pull-makes : (bytes : Entry → List ℕ) (t : TreeView) (v : TableView) (r : ℕ) → IsTreeOf bytes t v → IsSound v → length v.log < 4294967295 → r < length v.pulled → r < 8 → get_or v.pulled r 0 ≢ length v.log
    → Makes t (op.Set (znode_path (LogPointer (suc r))) (decimal (length v.log)) None ∷ []) (expected bytes (after_pull r v)) (version_limits (after_pull r v))
pull-makes bytes t v r of sound room here few other = makes-one t (op.Set (znode_path (LogPointer (suc r))) (decimal (length v.log)) None) (expected bytes (after_pull r v)) (version_limits (after_pull r v))
    (does-as t (op.Set (znode_path (LogPointer (suc r))) (decimal (length v.log)) None) (with_state (LogPointer (suc r)) (plain (decimal (length v.log))) (expected bytes v)) (expected bytes (after_pull r v)) (raised (LogPointer (suc r)) (version_limits v)) (version_limits (after_pull r v))
    (sets t (expected bytes v) (version_limits v) of.nodes (LogPointer (suc r)) (plain (decimal (get_or v.pulled r 0))) (omega arith) (decimal (length v.log)) (ap (option_map (λ m. plain (decimal m))) was)
    (let w = ap or_zero was in let u = sound.pulled r in let l : last_version ≡ 18446744073709551615 = refl in omega (arith, w, u, room, l)))
    each bound)
  where
    was : slot v.pulled (suc r) ≡ Some (get_or v.pulled r 0)
    was = slot-at v.pulled r 0 here

    pointer : (s : ℕ) → cond (nat_eq s (suc r)) (Some (plain (decimal (length v.log)))) (option_map (λ m. plain (decimal m)) (slot v.pulled s)) ≡ option_map (λ m. plain (decimal m)) (slot (set v.pulled r (length v.log)) s)
    pointer s = sym (ap (option_map (λ m. plain (decimal m))) (slot-set v.pulled r (length v.log) s here) ∙ go (nat_eq s (suc r)))
      where
        go : (b : Bool) → option_map (λ m. plain (decimal m)) (cond b (Some (length v.log)) (slot v.pulled s)) ≡ cond b (Some (plain (decimal (length v.log)))) (option_map (λ m. plain (decimal m)) (slot v.pulled s))
        go true = refl
        go false = refl

    each : (y : Znode) → IsZnode y → with_state (LogPointer (suc r)) (plain (decimal (length v.log))) (expected bytes v) y ≡ expected bytes (after_pull r v) y
    each Log h = refl
    each (LogEntry i) h = refl
    each Blocks h = refl
    each (Block q d) h = refl
    each Order h = refl
    each (OrderOf i) h = refl
    each Numbers h = refl
    each (Partition q) h = refl
    each (Lock q k) h = refl
    each Mutations h = refl
    each (MutationNode i) h = refl
    each Quorum h = refl
    each Status h = refl
    each LastPart h = refl
    each Replicas h = refl
    each (Replica r) h = refl
    each (LogPointer s) h = pointer s
    each (IsActive r) h = refl

    limit : (s : ℕ) → cond (nat_eq s (suc r)) (suc (or_zero (slot v.pulled (suc r)))) (or_zero (slot v.pulled s)) ≤ or_zero (slot (set v.pulled r (length v.log)) s)
    limit s = let q = ap or_zero (slot-set v.pulled r (length v.log) s here) in let w = go (nat_eq s (suc r)) in omega (arith, q, w)
      where
        go : (b : Bool) → cond b (suc (or_zero (slot v.pulled (suc r)))) (or_zero (slot v.pulled s)) ≤ or_zero (cond b (Some (length v.log)) (slot v.pulled s))
        go true = let w = ap or_zero was in let u = sound.pulled r in omega (arith, w, u, other)
        go false = omega arith

    bound : (y : Znode) → IsZnode y → raised (LogPointer (suc r)) (version_limits v) y ≤ version_limits (after_pull r v) y
    bound Log h = omega arith
    bound (LogEntry i) h = omega arith
    bound Blocks h = omega arith
    bound (Block q d) h = omega arith
    bound Order h = omega arith
    bound (OrderOf i) h = omega arith
    bound Numbers h = omega arith
    bound (Partition q) h = omega arith
    bound (Lock q k) h = omega arith
    bound Mutations h = omega arith
    bound (MutationNode i) h = omega arith
    bound Quorum h = omega arith
    bound Status h = omega arith
    bound LastPart h = omega arith
    bound Replicas h = omega arith
    bound (Replica r) h = omega arith
    bound (LogPointer s) h = limit s
    bound (IsActive r) h = omega arith

-- ---- sessions

-- the multi of open, once the session is open
pub open-makes : (bytes : Entry → List ℕ) (t : TreeView) (v : TableView) (r n : ℕ) → HasZnodes t (expected bytes v) (version_limits v) → is_open t n ≡ true → r < length v.sessions → r < 8 → session_of v.sessions r ≡ None
    → Makes t (op.Create (znode_path (IsActive (suc r))) [] false (Some n) ∷ []) (expected bytes (after_open r n v)) (version_limits (after_open r n v))
open-makes bytes t v r n has_znodes fine here few none = makes-one t (op.Create (znode_path (IsActive (suc r))) [] false (Some n)) (expected bytes (after_open r n v)) (version_limits (after_open r n v))
    (does-as t (op.Create (znode_path (IsActive (suc r))) [] false (Some n)) (with_state (IsActive (suc r)) (owned n) (expected bytes v)) (expected bytes (after_open r n v)) (version_limits v) (version_limits (after_open r n v))
    (creates t (expected bytes v) (version_limits v) has_znodes (IsActive (suc r)) (omega arith) [] (Some n) fine (omega arith, (plain [], ap (option_map (λ s. plain [])) was, refl)) (ap (option_and_then (λ s. option_map owned s)) was))
    each (λ y k. limits-rise v (after_open r n v) (λ s. omega arith) (omega arith) (omega arith) y))
  where
    was : slot v.sessions (suc r) ≡ Some None
    was = slot-at v.sessions r None here ∙ ap Some none

    active : (s : ℕ) → cond (nat_eq s (suc r)) (Some (owned n)) (option_and_then (λ o. option_map owned o) (slot v.sessions s)) ≡ option_and_then (λ o. option_map owned o) (slot (set v.sessions r (Some n)) s)
    active s = sym (ap (option_and_then (λ o. option_map owned o)) (slot-set v.sessions r (Some n) s here) ∙ go (nat_eq s (suc r)))
      where
        go : (b : Bool) → option_and_then (λ o. option_map owned o) (cond b (Some (Some n)) (slot v.sessions s)) ≡ cond b (Some (owned n)) (option_and_then (λ o. option_map owned o) (slot v.sessions s))
        go true = refl
        go false = refl

    replica : (s : ℕ) → option_map (λ o. plain []) (slot v.sessions s) ≡ option_map (λ o. plain []) (slot (set v.sessions r (Some n)) s)
    replica s = sym (ap (option_map (λ o. plain [])) (slot-set v.sessions r (Some n) s here) ∙ go (nat_eq s (suc r)) refl)
      where
        go : (b : Bool) → nat_eq s (suc r) ≡ b → option_map (λ (o : Option ℕ). plain []) (cond b (Some (Some n)) (slot v.sessions s)) ≡ option_map (λ o. plain []) (slot v.sessions s)
        go true e = let q : s ≡ suc r = grind (arith, nat_tests) in sym (ap (λ (j : ℕ). option_map (λ (o : Option ℕ). plain []) (slot v.sessions j)) q ∙ ap (option_map (λ o. plain [])) was)
        go false e = refl

    each : (y : Znode) → IsZnode y → with_state (IsActive (suc r)) (owned n) (expected bytes v) y ≡ expected bytes (after_open r n v) y
    each Log h = refl
    each (LogEntry i) h = refl
    each Blocks h = refl
    each (Block q d) h = refl
    each Order h = refl
    each (OrderOf i) h = refl
    each Numbers h = refl
    each (Partition q) h = refl
    each (Lock q k) h = refl
    each Mutations h = refl
    each (MutationNode i) h = refl
    each Quorum h = refl
    each Status h = refl
    each LastPart h = refl
    each Replicas h = refl
    each (Replica s) h = replica s
    each (LogPointer r) h = refl
    each (IsActive s) h = active s

-- the end of a session in close
pub close-makes : (bytes : Entry → List ℕ) (t : TreeView) (v : TableView) (r n : ℕ) → HasZnodes t (expected bytes v) (version_limits v) → IsSound v → r < length v.sessions → session_of v.sessions r ≡ Some n
    → HasZnodes (ended t n) (expected bytes (after_close r n v)) (version_limits (after_close r n v))
close-makes bytes t v r n has_znodes sound here is = has_znodes-as (ended t n) (without_held n (expected bytes v)) (expected bytes (after_close r n v)) (version_limits v) (version_limits (after_close r n v)) (ends t (expected bytes v) (version_limits v) n has_znodes) each (λ y k. limits-rise v (after_close r n v) (λ s. omega arith) (omega arith) (omega arith) y)
  where
    was : slot v.sessions (suc r) ≡ Some (Some n)
    was = slot-at v.sessions r None here ∙ ap Some is

    stays : {A : Type 0} (f : A → ZnodeState) (o : Option A) → ((a : A) → (f a).owner ≡ None) → cond (not (is_held_by n (option_map f o))) (option_map f o) None ≡ option_map f o
    stays f None g = refl
    stays f (Some a) g = ap (λ (w : Option ℕ). cond (not (is_session n w)) (Some (f a)) None) (g a)

    lock : (q : Option ℕ) (k : ℕ) → cond (not (is_held_by n (option_map owned (v.holders q k)))) (option_map owned (v.holders q k)) None ≡ option_map owned (unlocked_by v.holders n q k)
    lock q k = go (v.holders q k)
      where
        go : (o : Option ℕ) → cond (not (is_held_by n (option_map owned o))) (option_map owned o) None ≡ option_map owned (owner_but n o)
        go None = refl
        go (Some s) = test (nat_eq s n)
          where
            test : (b : Bool) → cond (not b) (Some (owned s)) None ≡ option_map owned (cond b None (Some s))
            test true = refl
            test false = refl

    gone : (o : Option (Option ℕ)) → o ≡ Some (Some n) → cond (not (is_held_by n (option_and_then (λ s. option_map owned s) o))) (option_and_then (λ s. option_map owned s) o) None ≡ None
    gone o e = ap (λ (w : Option (Option ℕ)). cond (not (is_held_by n (option_and_then (λ s. option_map owned s) w))) (option_and_then (λ s. option_map owned s) w) None) e
        ∙ ap (λ (b : Bool). cond (not b) (Some (owned n)) None) (let w : nat_eq n n ≡ true = grind (arith, nat_tests) in w)

    others : (o : Option (Option ℕ)) → (o ≡ Some (Some n) → ⊥) → cond (not (is_held_by n (option_and_then (λ s. option_map owned s) o))) (option_and_then (λ s. option_map owned s) o) None ≡ option_and_then (λ s. option_map owned s) o
    others None f = refl
    others (Some None) f = refl
    others (Some (Some s)) f = go (nat_eq s n) refl
      where
        go : (b : Bool) → nat_eq s n ≡ b → cond (not b) (Some (owned s)) None ≡ Some (owned s)
        go true e = let q : s ≡ n = grind (arith, nat_tests) in absurd (f (ap (λ (j : ℕ). Some (Some j)) q))
        go false e = refl

    session-at : (i s : ℕ) → slot v.sessions (suc i) ≡ Some (Some s) → session_of v.sessions i ≡ Some s
    session-at i s e = inside v.sessions i e
      where
        inside : (xs : List (Option ℕ)) (i : ℕ) → slot xs (suc i) ≡ Some (Some s) → get_or xs i None ≡ Some s
        inside [] i e = absurd (cc)
        inside (x ∷ xs) zero e = cc
        inside (x ∷ xs) (suc i) e = inside xs i e

    active : (s : ℕ) → cond (not (is_held_by n (option_and_then (λ o. option_map owned o) (slot v.sessions s)))) (option_and_then (λ o. option_map owned o) (slot v.sessions s)) None ≡ option_and_then (λ o. option_map owned o) (slot (set v.sessions r None) s)
    active zero = refl
    active (suc i) = go (nat_eq (suc i) (suc r)) refl ∙ sym (ap (option_and_then (λ o. option_map owned o)) (slot-set v.sessions r None (suc i) here))
      where
        go : (b : Bool) → nat_eq (suc i) (suc r) ≡ b → cond (not (is_held_by n (option_and_then (λ o. option_map owned o) (slot v.sessions (suc i))))) (option_and_then (λ o. option_map owned o) (slot v.sessions (suc i))) None ≡ option_and_then (λ o. option_map owned o) (cond b (Some None) (slot v.sessions (suc i)))
        go true e = let q : i ≡ r = grind (arith, nat_tests) in gone (slot v.sessions (suc i)) (ap (λ (j : ℕ). slot v.sessions (suc j)) q ∙ was)
        go false e = others (slot v.sessions (suc i)) (λ w. let q = sound.own i r n (session-at i n w) is in absurd (grind (arith, nat_tests)))

    replica : (s : ℕ) → cond (not (is_held_by n (option_map (λ o. plain []) (slot v.sessions s)))) (option_map (λ o. plain []) (slot v.sessions s)) None ≡ option_map (λ o. plain []) (slot (set v.sessions r None) s)
    replica s = stays (λ o. plain []) (slot v.sessions s) (λ a. refl) ∙ sym (ap (option_map (λ o. plain [])) (slot-set v.sessions r None s here) ∙ go (nat_eq s (suc r)) refl)
      where
        go : (b : Bool) → nat_eq s (suc r) ≡ b → option_map (λ (o : Option ℕ). plain []) (cond b (Some None) (slot v.sessions s)) ≡ option_map (λ o. plain []) (slot v.sessions s)
        go true e = let q : s ≡ suc r = grind (arith, nat_tests) in sym (ap (λ (j : ℕ). option_map (λ (o : Option ℕ). plain []) (slot v.sessions j)) q ∙ ap (option_map (λ o. plain [])) was)
        go false e = refl

    each : (y : Znode) → IsZnode y → without_held n (expected bytes v) y ≡ expected bytes (after_close r n v) y
    each Log h = refl
    each (LogEntry i) h = stays (λ x. plain (bytes x)) (entry_at v.log i) (λ a. refl)
    each Blocks h = refl
    each (Block q d) h = stays (λ k. plain (text_of k.kept.part)) (with_id q d (in_order v.schema.window v.log)) (λ a. refl)
    each Order h = refl
    each (OrderOf i) h = stays (λ k. plain (id_text k.kept.part.partition k.kept.digest)) (with_number i (in_order v.schema.window v.log)) (λ a. refl)
    each Numbers h = refl
    each (Partition q) h = stays counting (next_of v.next q) (λ a. refl)
    each (Lock q k) h = lock q k
    each Mutations h = refl
    each (MutationNode i) h = stays (λ j. plain (decimal j)) (mutation_place v.log i) (λ a. refl)
    each Quorum h = refl
    each Status h = stays (λ q. plain (status_text q)) v.quorum.pending (λ a. refl)
    each LastPart h = stays (λ a. plain (text_of a)) v.quorum.last (λ a. refl)
    each Replicas h = refl
    each (Replica s) h = replica s
    each (LogPointer s) h = stays (λ m. plain (decimal m)) (slot v.pulled s) (λ a. refl)
    each (IsActive s) h = active s
