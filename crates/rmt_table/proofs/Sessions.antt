-- What a session that starts or ends makes of a table.
use Rattle.std.proofs.Common.{◌≡◌, ◌↔◌, ℕ, suc, ◌+◌, ◌-◌, ◌<◌, ◌≤◌, inl, inr, Bool, true, false, not, is_some, nat_eq, filter, List, [], ◌∷◌, length, refl, sym, ap, subst, arith, ◌∙◌, get_or, set}
use Rattle.std.proofs.lemmas.Bool.Decides.{nat_tests}
use Rattle.std.proofs.lemmas.List.{get_or_default}
use Rattle.std.specs.declared.option.Option.{Option}
use Rattle.std.specs.declared.option.Option.TheVariants.{Some, None}
use Rattle.rmt_row.specs.Token.{Token}
use Rattle.rmt_entries.specs.declared.entry.Entry.{Entry}
use Rattle.rmt_entries.specs.EntryBytes.{entry_bytes}
use Rattle.rmt_model.specs.Words.{Has}
use Rattle.rmt_model.proofs.Lists.{Each-all, Has-filter, Has-kept, Pairwise-filter}
use Rattle.rmt_nameset.proofs.Ranges.{filter-all}
use Rattle.rmt_tree.specs.Trees.{TreeView, is_open, opened, ended, IsLeastFree}
use Rattle.rmt_tree.specs.Ops.{after_all, first_refusal}
use Rattle.rmt_tree.specs.declared.op.Op.TheVariants as op
use Rattle.rmt_paths.specs.Paths.{Names}
use Rattle.rmt_znodes.specs.declared.znode.Znode.TheVariants.{IsActive}
use Rattle.rmt_znodes.specs.Znodes.{znode_path}
use Rattle.rmt_events.specs.Views.{Lock}
use Rattle.rmt_events.specs.TableCalls.{Opens, Closes, with_session}
use Rattle.rmt_events.proofs.TableSteps.{session-from, session-new, session-old}
use Rattle.rmt_table_model.specs.Changes.{after_open, after_close}
use Rattle.rmt_table_model.specs.Held.{Held, table_of}
use Rattle.rmt_table_model.specs.Nodes.{IsTable}
use Rattle.rmt_znodes.specs.ZnodeStates.{Makes}
use Rattle.rmt_table_model.specs.Steps.{Steps}
use Rattle.rmt_table_model.specs.Tables.{TableView, IsSound, session_of}
use Rattle.rmt_table_model.proofs.TableLemmas.{open-steps, close-steps}
use Rattle.rmt_table_model.proofs.UndoneLemmas.{open-undone}
use Rattle.rmt_table_model.proofs.HeldLemmas.{held-table, held-held}
use Rattle.rmt_table.specs.SeenTable.{opened_from, shown}
use Rattle.rmt_table.proofs.Orders.{same-lists}
use Rattle.rmt_table.proofs.LockLemmas.{locks-from}
use Rattle.rmt_table.proofs.SessionLemmas.{opened-from, opened-has, opened-rising, numbers-order, session-rising}
use Rattle.rmt_table.proofs.CallBridge.{open-bridge, close-bridge}
use Rattle.rmt_table.specs.TableTrees.{table_at, IsReplica, Counts, IsTableTree, OpensTree}

-- ---- what is read

-- the session of a replica as the table has it
pub session-read : (xs : List (Option ℕ)) (r at : ℕ) (o : Option ℕ) → at ≡ r → 1 ≤ r → r ≤ length xs → o ≡ get_or xs (at - 1) o → session_of xs (r - 1) ≡ o
session-read xs r at o q from to e = sym (e ∙ ap (λ (i : ℕ). get_or xs (i - 1) o) q ∙ get_or_default xs (r - 1) o None (omega (arith, from, to)))

-- it has none
pub none-read : {x : Option ℕ} (o : Option ℕ) (b : Bool) → x ≡ o → b ≡ is_some o → b ≡ false → x ≡ None
none-read None b e f n = e
none-read (Some s) b e f n = absurd (cc)

-- whether a replica has a session
pub session-told : (xs : List (Option ℕ)) (r : ℕ) (o : Option ℕ) (b : Bool) → 1 ≤ r → session_of xs (r - 1) ≡ o → b ≡ is_some o → (b ≡ true) ↔ Has (opened_from 1 xs) r
session-told xs r o b from at e = (forth o at e, back o at e)
  where
    forth : (o : Option ℕ) → session_of xs (r - 1) ≡ o → b ≡ is_some o → b ≡ true → Has (opened_from 1 xs) r
    forth None q f t = absurd (cc)
    forth (Some s) q f t = opened-has xs 1 r (r - 1) s (omega (arith, from)) q

    back : (o : Option ℕ) → session_of xs (r - 1) ≡ o → b ≡ is_some o → Has (opened_from 1 xs) r → b ≡ true
    back (Some s) q f h = f
    back None q f h =
        let x = opened-from xs 1 r h in
        let n : x.replica ≡ r - 1 = (let m = x.number in omega (arith, m)) in
        let y : ◌≡◌ {A = Option ℕ} None (Some x.session) = sym q ∙ (ap (session_of xs) (sym n) ∙ x.opened) in
        absurd (cc)

-- ---- where nothing changes

-- a session that is open already
pub opens-same : (v : TableView) → (r s : ℕ) → 1 ≤ r → session_of v.sessions (r - 1) ≡ Some s → Opens (shown v) r (shown v)
opens-same v r s from e = ap (λ (xs : List ℕ). record (shown v) { sessions = xs }) same
  where
    others : List ℕ
    others = filter (λ i. not (nat_eq i r)) (opened_from 1 v.sessions)

    here : Has (opened_from 1 v.sessions) r
    here = opened-has v.sessions 1 r (r - 1) s (omega (arith, from)) e

    forth : (i : ℕ) → Has (opened_from 1 v.sessions) i → (b : Bool) → nat_eq i r ≡ b → Has (with_session r others) i
    forth i h true q = subst (Has (with_session r others)) (let w : r ≡ i = grind (arith, nat_tests) in w) (session-new r others)
    forth i h false q = session-old r others i (Has-kept (λ j. not (nat_eq j r)) (opened_from 1 v.sessions) i h (ap not q))

    same : opened_from 1 v.sessions ≡ with_session r others
    same = same-lists ◌<◌ numbers-order (opened_from 1 v.sessions) (with_session r others) (opened-rising v.sessions 1)
        (session-rising r others (Pairwise-filter ◌<◌ (λ i. not (nat_eq i r)) (opened_from 1 v.sessions) (opened-rising v.sessions 1)) (λ h. let f = (Has-filter (λ i. not (nat_eq i r)) (opened_from 1 v.sessions) r h).1 in absurd (grind (arith, nat_tests))))
        (λ i h. forth i h (nat_eq i r) refl)
        (λ i h. elim (session-from r others i h) [
          | inl q ↦ subst (Has (opened_from 1 v.sessions)) q here
          | inr j ↦ (Has-filter (λ i. not (nat_eq i r)) (opened_from 1 v.sessions) i j).0
        ])

-- a session that isn't there
pub closes-same : (v : TableView) → IsSound v → (r : ℕ) → 1 ≤ r → session_of v.sessions (r - 1) ≡ None → Closes (shown v) r (shown v)
closes-same v sound r from e =
    ap (λ (ks : List Lock). record (shown v) { locks = ks }) (sym (filter-all (λ k. not (nat_eq k.owner r)) (shown v).locks (Each-all (λ k. not (nat_eq k.owner r) ≡ true) (shown v).locks lock)))
    ∙ ap (λ (xs : List ℕ). record (shown v) { locks = filter (λ k. not (nat_eq k.owner r)) (shown v).locks; sessions = xs }) (sym (filter-all (λ i. not (nat_eq i r)) (shown v).sessions (Each-all (λ i. not (nat_eq i r) ≡ true) (shown v).sessions session)))
  where
    other : (i t s : ℕ) → i ≡ 1 + t → session_of v.sessions t ≡ Some s → (b : Bool) → nat_eq i r ≡ b → not (nat_eq i r) ≡ true
    other i t s n o true q =
        let m : t ≡ r - 1 = grind (arith, nat_tests) in
        let y : ◌≡◌ {A = Option ℕ} None (Some s) = sym e ∙ (ap (session_of v.sessions) (sym m) ∙ o) in
        absurd (cc)
    other i t s n o false q = ap not q

    lock : (k : Lock) → Has (shown v).locks k → not (nat_eq k.owner r) ≡ true
    lock k h = let x = locks-from v sound k h in let n = x.owner in other k.owner x.replica x.session (omega (arith, n)) x.opened (nat_eq k.owner r) refl

    session : (i : ℕ) → Has (shown v).sessions i → not (nat_eq i r) ≡ true
    session i h = let x = opened-from v.sessions 1 i h in other i x.replica x.session x.number x.opened (nat_eq i r) refl

-- ---- a session starts

module _ (h : Held) (tokens : List (Token Entry)) (counts : Counts) (is : IsTableTree h tokens counts) (now : Held) (same : h ≡ now) (r : ℕ) (here : IsReplica now r) where
  first : 1 ≤ r
  first = here.first

  within : r - 1 < length h.sessions
  within = let f = here.first in let l : r ≤ length h.sessions = subst (λ (k : Held). r ≤ length k.sessions) (sym same) here.last in omega (arith, f, l)

  place-of : suc (r - 1) ≡ r
  place-of = let f = here.first in omega (arith, f)

  number-of : r - 1 + 1 ≡ r
  number-of = let f = here.first in omega (arith, f)

  pub session-at : (at : ℕ) (o : Option ℕ) → at ≡ r → o ≡ get_or h.sessions (at - 1) o → session_of h.sessions (r - 1) ≡ o
  session-at at o q e = session-read h.sessions r at o q here.first (let f = here.first in let w = within in omega (arith, f, w)) e

  pub told-now : (o : Option ℕ) (b : Bool) → session_of h.sessions (r - 1) ≡ o → b ≡ is_some o → (b ≡ true) ↔ Has (opened_from 1 now.sessions) r
  told-now o b at e = subst (λ (k : Held). (b ≡ true) ↔ Has (opened_from 1 k.sessions) r) same (session-told h.sessions r o b here.first at e)

  pub open-same : (o : Option ℕ) (b : Bool) → session_of h.sessions (r - 1) ≡ o → b ≡ is_some o → b ≡ true → Opens (table_at now) r (table_at now)
  open-same o b at e t = subst (λ (k : Held). Opens (table_at k) r (table_at k)) same (go o at e)
    where
      go : (o : Option ℕ) → session_of h.sessions (r - 1) ≡ o → b ≡ is_some o → Opens (table_at h) r (table_at h)
      go None q f = absurd (cc)
      go (Some s) q f = opens-same (table_of h) r s here.first q

  pub close-same : session_of h.sessions (r - 1) ≡ None → Closes (table_at now) r (table_at now)
  close-same e = subst (λ (k : Held). Closes (table_at k) r (table_at k)) same (closes-same (table_of h) is.held.sound r here.first e)

  module _ (n : ℕ) (least : IsLeastFree h.tree n) (none : session_of h.sessions (r - 1) ≡ None) (path : Names) (path-is : path ≡ znode_path (IsActive r)) (u : TreeView) (u-is : u ≡ opened h.tree n) where
    pub open-fine : first_refusal u (op.Create path [] false (Some n) ∷ []) 0 ≡ None
    open-fine = subst (λ (w : TreeView). first_refusal w (op.Create path [] false (Some n) ∷ []) 0 ≡ None) (sym u-is)
        (subst (λ (p : Names). first_refusal (opened h.tree n) (op.Create p [] false (Some n) ∷ []) 0 ≡ None) (ap (λ (i : ℕ). znode_path (IsActive i)) place-of ∙ sym path-is)
        (Makes.none_refused (Steps.makes (open-steps entry_bytes h.tree (table_of h) is.held (r - 1) n within none least)) 0))

    module _ (t : TreeView) (t-is : t ≡ after_all u (op.Create path [] false (Some n) ∷ [])) where
      open-tree : t ≡ after_all (opened h.tree n) (op.Create (znode_path (IsActive r)) [] false (Some n) ∷ [])
      open-tree = t-is ∙ ap (λ (w : TreeView). after_all w (op.Create path [] false (Some n) ∷ [])) u-is ∙ ap (λ (p : Names). after_all (opened h.tree n) (op.Create p [] false (Some n) ∷ [])) path-is

      open-stepped : IsTable entry_bytes t (after_open (r - 1) n (table_of h))
      open-stepped = subst (λ (w : TreeView). IsTable entry_bytes w (after_open (r - 1) n (table_of h)))
          (ap (λ (i : ℕ). after_all (opened h.tree n) (op.Create (znode_path (IsActive i)) [] false (Some n) ∷ [])) place-of ∙ sym open-tree)
          (Steps.table (open-steps entry_bytes h.tree (table_of h) is.held (r - 1) n within none least))

      module _ (at : ℕ) (at-is : at ≡ r) where
        open-moved : ◌≡◌ {A = Held} (record h { sessions = set h.sessions (r - 1) (Some n); tree = t }) (record h { sessions = set h.sessions (at - 1) (Some n); tree = t })
        open-moved = ap (λ (i : ℕ). record h { sessions = set h.sessions (i - 1) (Some n); tree = t }) (sym at-is)

        pub open-kept : IsTableTree (record h { sessions = set h.sessions (at - 1) (Some n); tree = t }) tokens counts
        open-kept = subst (λ (k : Held). IsTableTree k tokens counts) open-moved (record {
          held = held-held entry_bytes (record h { sessions = set h.sessions (r - 1) (Some n); tree = t }) (after_open (r - 1) n (table_of h)) open-stepped refl;
          counted = record { clients = is.counted.clients; workers = is.counted.workers; mutations = is.counted.mutations; blocks = is.counted.blocks; window = is.counted.window };
          places = is.places;
        })

        new-session : (o : Bool) → is_open h.tree n ≡ o → o ≡ false → is_open h.tree n ≡ true → ⊥
        new-session true e f g = absurd (cc)
        new-session false e f g = absurd (cc)

        pub open-opens : Opens (table_at now) r (table_at (record h { sessions = set h.sessions (at - 1) (Some n); tree = t }))
        open-opens = subst (λ (k : Held). Opens (table_at now) r (table_at k)) open-moved
            (subst (λ (w : TableView). Opens (table_at now) r (shown w)) (sym (held-table entry_bytes (record h { sessions = set h.sessions (r - 1) (Some n); tree = t }) (after_open (r - 1) n (table_of h)) open-stepped refl))
            (subst (λ (k : Held). Opens (table_at k) r (shown (after_open (r - 1) n (table_of h)))) same
            (subst (λ (i : ℕ). Opens (table_at h) i (shown (after_open (r - 1) n (table_of h)))) number-of
            (open-bridge (table_of h) is.held.sound (r - 1) n none (record { is_here = within; is_new = λ o. new-session (is_open h.tree n) refl least.free ((is.held.tree.sessions n).1 o) })))))

        pub open-starts : OpensTree (session_of now.sessions (r - 1)) now r (record h { sessions = set h.sessions (at - 1) (Some n); tree = t })
        open-starts = subst (λ (k : Held). OpensTree (session_of k.sessions (r - 1)) k r (record h { sessions = set h.sessions (at - 1) (Some n); tree = t })) same (go (session_of h.sessions (r - 1)) none)
          where
            go : (o : Option ℕ) → o ≡ None → OpensTree o h r (record h { sessions = set h.sessions (at - 1) (Some n); tree = t })
            go None e = record { session = n; free = least; tree = open-tree }
            go (Some s) e = absurd (cc)

    -- its node couldn't be made
    module _ (m t : TreeView) (m-is : m ≡ u) (t-is : t ≡ ended m n) where
      undone-tree : t ≡ h.tree
      undone-tree = t-is ∙ ap (λ (w : TreeView). ended w n) (m-is ∙ u-is) ∙ open-undone entry_bytes h.tree (table_of h) is.held n least.free

      pub undone-kept : IsTableTree (record h { tree = t }) tokens counts
      undone-kept = subst (λ (w : TreeView). IsTableTree (record h { tree = w }) tokens counts) (sym undone-tree) is

      pub undone-same : ◌≡◌ {A = Held} (record h { tree = t }) now
      undone-same = ap (λ (w : TreeView). record h { tree = w }) undone-tree ∙ same

  -- ---- a session ends

  module _ (s : ℕ) (was : session_of h.sessions (r - 1) ≡ Some s) (t : TreeView) (t-is : t ≡ ended h.tree s) (at : ℕ) (at-is : at ≡ r) where
    close-stepped : IsTable entry_bytes t (after_close (r - 1) s (table_of h))
    close-stepped = subst (λ (w : TreeView). IsTable entry_bytes w (after_close (r - 1) s (table_of h))) (sym t-is) (close-steps entry_bytes h.tree (table_of h) is.held (r - 1) s within was)

    close-moved : ◌≡◌ {A = Held} (record h { sessions = set h.sessions (r - 1) None; tree = t }) (record h { sessions = set h.sessions (at - 1) None; tree = t })
    close-moved = ap (λ (i : ℕ). record h { sessions = set h.sessions (i - 1) None; tree = t }) (sym at-is)

    pub close-kept : IsTableTree (record h { sessions = set h.sessions (at - 1) None; tree = t }) tokens counts
    close-kept = subst (λ (k : Held). IsTableTree k tokens counts) close-moved (record {
      held = held-held entry_bytes (record h { sessions = set h.sessions (r - 1) None; tree = t }) (after_close (r - 1) s (table_of h)) close-stepped refl;
      counted = record { clients = is.counted.clients; workers = is.counted.workers; mutations = is.counted.mutations; blocks = is.counted.blocks; window = is.counted.window };
      places = is.places;
    })

    pub close-closes : Closes (table_at now) r (table_at (record h { sessions = set h.sessions (at - 1) None; tree = t }))
    close-closes = subst (λ (k : Held). Closes (table_at now) r (table_at k)) close-moved
        (subst (λ (w : TableView). Closes (table_at now) r (shown w)) (sym (held-table entry_bytes (record h { sessions = set h.sessions (r - 1) None; tree = t }) (after_close (r - 1) s (table_of h)) close-stepped refl))
        (subst (λ (k : Held). Closes (table_at k) r (shown (after_close (r - 1) s (table_of h)))) same
        (subst (λ (i : ℕ). Closes (table_at h) i (shown (after_close (r - 1) s (table_of h)))) number-of
        (close-bridge (table_of h) is.held.sound (r - 1) s within was))))
