-- What a number for a block makes of a table, and why there is none.
use Rattle.std.proofs.Common.{◌≡◌, ℕ, ◌+◌, ◌-◌, ◌<◌, ◌≤◌, ◌&&◌, Bool, true, false, cond, nat_eq, nat_le, List, length, refl, sym, ap, subst, arith, ◌∙◌}
use Rattle.std.specs.Prelude.{IfSome}
use Rattle.std.proofs.lemmas.Bool.Decides.{nat_tests}
use Rattle.std.specs.declared.option.Option.{Option}
use Rattle.std.specs.declared.option.Option.TheVariants.{Some, None}
use Rattle.std.specs.Option.{option_map}
use Rattle.rmt_values.specs.declared.limit.Limit.{Limit}
use Rattle.rmt_values.specs.declared.limit.Limit.TheVariants as limits
use Rattle.rmt_names.specs.Names.{Name}
use Rattle.rmt_block.specs.declared.block_id.BlockId.{BlockId}
use Rattle.rmt_row.specs.Token.{Token}
use Rattle.rmt_entries.specs.declared.entry.Entry.{Entry}
use Rattle.rmt_entries.specs.EntryBytes.{entry_bytes}
use Rattle.rmt_model.specs.Words.{Has}
use Rattle.rmt_model.specs.BlockNumbers.{next_number, with_next}
use Rattle.rmt_model.specs.EntryLimits.{client_count, client_limit, allocate_limit}
use Rattle.rmt_tree.specs.Trees.{TreeView, is_open}
use Rattle.rmt_tree.specs.Ops.{after_all}
use Rattle.rmt_znodes.specs.Znodes.{IsPartition}
use Rattle.rmt_table_model.specs.Numbers.{Nexts, AreNexts, next_of, taken}
use Rattle.rmt_table_model.specs.Kept.{in_order, with_id}
use Rattle.rmt_table_model.specs.Inserts.{part_of}
use Rattle.rmt_table_model.specs.Tables.{TableView, session_of}
use Rattle.rmt_table_model.specs.Changes.{MayAllocate, after_allocate}
use Rattle.rmt_table_model.specs.Nodes.{IsTable, take_ops, allocate_ops}
use Rattle.rmt_table_model.specs.Steps.{Steps}
use Rattle.rmt_table_model.specs.Held.{Held, IsHeld, table_of, holders_in}
use Rattle.rmt_table_model.proofs.NumberLemmas.{next-none, next-has}
use Rattle.rmt_table_model.proofs.TableLemmas.{allocate-steps}
use Rattle.rmt_table_model.proofs.HeldLemmas.{held-table, held-held}
use Rattle.rmt_events.specs.TableCalls.{Allocates, kept_part}
use Rattle.rmt_events.specs.TableRefusals.{HasQuorum, NoNumber}
use Rattle.rmt_table.specs.SeenTable.{shown}
use Rattle.rmt_table.proofs.SessionLemmas.{opened-has, not-opened}
use Rattle.rmt_table.proofs.NumberLemmas as view
use Rattle.rmt_table.proofs.CallBridge.{allocate-bridge}
use Rattle.rmt_inserts.specs.Numbers.{number_limit, IsNumberError}
use Rattle.rmt_inserts.specs.declared.number_error.NumberError.{NumberError}
use Rattle.rmt_inserts.specs.declared.number_error.NumberError.TheVariants as number
use Rattle.rmt_history.specs.Mutations.{number_among}
use Rattle.rmt_table.proofs.LookupLemmas.{lookup-same, number-where}
use Rattle.rmt_table.specs.declared.allocate_error.AllocateError.{AllocateError}
use Rattle.rmt_table.specs.declared.allocate_error.AllocateError.TheVariants as allocate
use Rattle.rmt_table.specs.Causes.{allocate_cause}
use Rattle.rmt_table.specs.Refusals.{IsSameLimit, allocate_of}
use Rattle.rmt_table.specs.Quorums.{NoQuorum}
use Rattle.rmt_table.specs.declared.quorum_error.QuorumError.{QuorumError}
use Rattle.rmt_table.specs.declared.quorum_error.QuorumError.TheVariants as quorum
use Rattle.rmt_table.specs.TableTrees.{table_at, session_at, Counts, IsTableTree, IsReplica}

-- the part of a kept id, as events see it
pub kept-seen : (h : Held) (p : Option ℕ) (digest : List ℕ) (part : Option Name) → part ≡ part_of p digest (in_order h.schema.window h.log) → kept_part (table_at h).window p digest ≡ part
kept-seen h p digest part e = view.kept-same h.schema.window h.log p digest ∙ sym e

pub unkept : (o : Option Name) (f : ◌≡◌ {A = Option Name} o None) (p : Option ℕ) (digest : List ℕ) (h : Held) → o ≡ part_of p digest (in_order h.schema.window h.log) → with_id p digest (in_order h.schema.window h.log) ≡ None
unkept o f p digest h e = go (with_id p digest (in_order h.schema.window h.log)) refl (sym e ∙ f)
  where
    go : (w : Option _) → with_id p digest (in_order h.schema.window h.log) ≡ w → option_map (λ k. k.kept.part) w ≡ None → with_id p digest (in_order h.schema.window h.log) ≡ None
    go None i q = i
    go (Some k) i q = absurd (cc)

-- a limit on numbers is one on a block
limit-some : (next : Nexts) (log : List Entry) (p : Option ℕ) (l : Limit × ℕ) → number_limit next p ≡ Some l → allocate_limit next log p ≡ Some l
limit-some next log p l e = go (nat_eq (next_number next p) 0 && nat_le 1024 (length next)) (nat_le 65536 (next_number next p)) e
  where
    go : (a b : Bool) → cond {A = Option (Limit × ℕ)} a (Some (limits.Partitions, length next)) (cond {A = Option (Limit × ℕ)} b (Some (limits.Numbers, next_number next p)) None) ≡ Some l
        → cond {A = Option (Limit × ℕ)} a (Some (limits.Partitions, length next)) (cond {A = Option (Limit × ℕ)} b (Some (limits.Numbers, next_number next p)) (client_limit log)) ≡ Some l
    go true b e = e
    go false true e = e
    go false false e = absurd (cc)

record HasRoom (next : Nexts) (p : Option ℕ) : Type 0 where
  partitions : nat_eq (next_number next p) 0 && nat_le 1024 (length next) ≡ false
  numbers : next_number next p < 65536

limit-none : (next : Nexts) (p : Option ℕ) → number_limit next p ≡ None → HasRoom next p
limit-none next p e = go (nat_eq (next_number next p) 0 && nat_le 1024 (length next)) refl (nat_le 65536 (next_number next p)) refl e
  where
    go : (a : Bool) → (nat_eq (next_number next p) 0 && nat_le 1024 (length next)) ≡ a → (b : Bool) → nat_le 65536 (next_number next p) ≡ b
        → cond {A = Option (Limit × ℕ)} a (Some (limits.Partitions, length next)) (cond {A = Option (Limit × ℕ)} b (Some (limits.Numbers, next_number next p)) None) ≡ None → HasRoom next p
    go true f b g e = absurd (cc)
    go false f true g e = absurd (cc)
    go false f false g e = record { partitions = f; numbers = grind (arith, nat_tests) }

-- a number can be counted
pub may-take : (h : Held) (p : Option ℕ) → number_limit h.next p ≡ None → next_number h.next p + 1 < 4294967296
may-take h p e = let l = HasRoom.numbers (limit-none h.next p e) in omega (arith, l)

-- the first limit, where there is no room for an entry
partitions-limit : (next : Nexts) (log : List Entry) (p : Option ℕ) → number_among next p ≡ None → 1024 ≤ length next → allocate_limit next log p ≡ Some (limits.Partitions, length next)
partitions-limit next log p e l =
    let z = next-none next p (sym (lookup-same next p) ∙ e) in
    let t : (nat_eq (next_number next p) 0 && nat_le 1024 (length next)) ≡ true = grind (arith, nat_tests) in
    ap (λ (b : Bool). cond b (Some (limits.Partitions, length next)) (cond (nat_le 65536 (next_number next p)) (Some (limits.Numbers, next_number next p)) (client_limit log))) t

numbers-limit : (next : Nexts) (log : List Entry) (p : Option ℕ) (n : ℕ) → AreNexts next → number_among next p ≡ Some n → 65536 ≤ n → allocate_limit next log p ≡ Some (limits.Numbers, n)
numbers-limit next log p n a e l =
    let z = number-where next p n a (sym (lookup-same next p) ∙ e) in
    let t : (nat_eq (next_number next p) 0 && nat_le 1024 (length next)) ≡ false = grind (arith, nat_tests) in
    let u : nat_le 65536 (next_number next p) ≡ true = grind (arith, nat_tests) in
    ap (λ (b : Bool). cond b (Some (limits.Partitions, length next)) (cond (nat_le 65536 (next_number next p)) (Some (limits.Numbers, next_number next p)) (client_limit log))) t
    ∙ ap (λ (b : Bool). cond b (Some (limits.Numbers, next_number next p)) (client_limit log)) u ∙ ap (λ (m : ℕ). Some (limits.Numbers, m)) z

rest-limit : (next : Nexts) (log : List Entry) (p : Option ℕ) → (nat_eq (next_number next p) 0 && nat_le 1024 (length next)) ≡ false → next_number next p < 65536 → 32768 ≤ client_count log → allocate_limit next log p ≡ Some (limits.ClientEntries, client_count log)
rest-limit next log p t l f =
    let u : nat_le 65536 (next_number next p) ≡ false = grind (arith, nat_tests) in
    let w : nat_le 32768 (client_count log) ≡ true = grind (arith, nat_tests) in
    ap (λ (b : Bool). cond b (Some (limits.Partitions, length next)) (cond (nat_le 65536 (next_number next p)) (Some (limits.Numbers, next_number next p)) (client_limit log))) t
    ∙ ap (λ (b : Bool). cond b (Some (limits.Numbers, next_number next p)) (client_limit log)) u ∙ ap (λ (b : Bool). cond b (Some (limits.ClientEntries, client_count log)) None) w

new-limit : (next : Nexts) (log : List Entry) (p : Option ℕ) → number_among next p ≡ None → length next < 1024 → 32768 ≤ client_count log → allocate_limit next log p ≡ Some (limits.ClientEntries, client_count log)
new-limit next log p e l f = let z = next-none next p (sym (lookup-same next p) ∙ e) in rest-limit next log p (grind (arith, nat_tests)) (omega (arith, z)) f

old-limit : (next : Nexts) (log : List Entry) (p : Option ℕ) (n : ℕ) → AreNexts next → number_among next p ≡ Some n → n < 65536 → 32768 ≤ client_count log → allocate_limit next log p ≡ Some (limits.ClientEntries, client_count log)
old-limit next log p n a e l f =
    let i = sym (lookup-same next p) ∙ e in
    let z = number-where next p n a i in
    let b = a.begun p n (next-has next p n i) in
    rest-limit next log p (grind (arith, nat_tests)) (omega (arith, z, l)) f

limit-answer : (o : Option (Limit × ℕ)) (l : Limit × ℕ) (x : AllocateError) → o ≡ Some l → x ≡ allocate.LimitReached l.0 l.1 → option_map (λ m. allocate.LimitReached m.0 m.1) o ≡ Some x
limit-answer o l x e f = ap (option_map (λ (m : Limit × ℕ). allocate.LimitReached m.0 m.1)) e ∙ ap Some (sym f)

-- the same at a table whose log is full of entries of clients
abbrev pub AnswersFull : Held → Option ℕ → AllocateError → Type 0
AnswersFull h p x = option_map (λ l. allocate.LimitReached l.0 l.1) (allocate_limit h.next h.log p) ≡ Some x

module _ (h now : Held) (e : h ≡ now) where
  pub full-partitions : (p : Option ℕ) (found : Option ℕ) → found ≡ number_among h.next p → found ≡ None → (m : ℕ) → m ≡ length h.next → 1024 ≤ m → AnswersFull now p (allocate.LimitReached limits.Partitions m)
  full-partitions p found f q m l g = subst (λ (w : Held). AnswersFull w p (allocate.LimitReached limits.Partitions m)) e
      (limit-answer (allocate_limit h.next h.log p) (limits.Partitions, length h.next) (allocate.LimitReached limits.Partitions m) (partitions-limit h.next h.log p (sym f ∙ q) (omega (arith, l, g))) (ap (allocate.LimitReached limits.Partitions) l))

  pub full-new : (p : Option ℕ) (found : Option ℕ) → found ≡ number_among h.next p → found ≡ None → (m : ℕ) → m ≡ length h.next → m < 1024 → 32768 ≤ client_count now.log → (x : AllocateError) → x ≡ allocate.LimitReached limits.ClientEntries (client_count now.log) → AnswersFull now p x
  full-new p found f q m l g full x r = limit-answer (allocate_limit now.next now.log p) (limits.ClientEntries, client_count now.log) x
      (new-limit now.next now.log p (subst (λ (w : Held). number_among w.next p ≡ None) e (sym f ∙ q)) (subst (λ (w : Held). length w.next < 1024) e (omega (arith, l, g))) full) r

  pub full-numbers : IsHeld entry_bytes h → (p : Option ℕ) (found : Option ℕ) → found ≡ number_among h.next p → (n : ℕ) → found ≡ Some n → 65536 ≤ n → (m : ℕ) → m ≡ n → AnswersFull now p (allocate.LimitReached limits.Numbers m)
  full-numbers is p found f n q g m s = subst (λ (w : Held). AnswersFull w p (allocate.LimitReached limits.Numbers m)) e
      (limit-answer (allocate_limit h.next h.log p) (limits.Numbers, n) (allocate.LimitReached limits.Numbers m) (numbers-limit h.next h.log p n is.sound.nexts (sym f ∙ q) g) (ap (allocate.LimitReached limits.Numbers) s))

  pub full-old : IsHeld entry_bytes h → (p : Option ℕ) (found : Option ℕ) → found ≡ number_among h.next p → (n : ℕ) → found ≡ Some n → n < 65536 → 32768 ≤ client_count now.log → (x : AllocateError) → x ≡ allocate.LimitReached limits.ClientEntries (client_count now.log) → AnswersFull now p x
  full-old is p found f n q g full x r = limit-answer (allocate_limit now.next now.log p) (limits.ClientEntries, client_count now.log) x
      (old-limit now.next now.log p n (subst (λ (w : Held). AreNexts w.next) e is.sound.nexts) (subst (λ (w : Held). number_among w.next p ≡ Some n) e (sym f ∙ q)) g full) r

module _ (h : Held) (tokens : List (Token Entry)) (counts : Counts) (k : IsTableTree h tokens counts) (now : Held) (e : h ≡ now) (r need : ℕ) (id : BlockId) (here : IsReplica now r) (session : Option ℕ) (at-now : session ≡ session_at now r) where
  at : session ≡ session_of h.sessions (r - 1)
  at = at-now ∙ ap (λ (w : Held). session_at w r) (sym e)

  back : r - 1 + 1 ≡ r
  back = let l = here.first in omega (arith, l)

  -- the cause of the error is why the block gets no number
  abbrev pub HasCause : AllocateError → Type 0
  HasCause x = IfSome (allocate_cause x) (NoNumber (table_at now) r id.partition id.digest need)

  pub no-session : session ≡ None → HasCause allocate.NoSession
  no-session f = λ has. not-opened h.sessions (r - 1) (sym at ∙ f) (subst (λ (w : Held). Has (table_at w).sessions (r - 1 + 1)) (sym e) (subst (Has (table_at now).sessions) (sym back) has))

  has-session-at : (s : ℕ) → session ≡ Some s → Has (table_at now).sessions r
  has-session-at s begun = subst (λ (w : Held). Has (table_at w).sessions r) e (opened-has h.sessions 1 r (r - 1) s (let l = here.first in omega (arith, l)) (sym at ∙ begun))

  -- its quorum refuses a block
  pub no-quorum : (s : ℕ) → session ≡ Some s → (x : QuorumError) → NoQuorum (table_at now) need x → (y : AllocateError) → y ≡ allocate_of x → HasCause y
  no-quorum s begun (quorum.TooFewLive live needed) q y f = subst HasCause (sym f) (has-session-at s begun, q)
  no-quorum s begun (quorum.QuorumPending a) q y f = subst HasCause (sym f) (has-session-at s begun, q)

  module _ (s : ℕ) (begun : session ≡ Some s) (free : HasQuorum (table_at now) need) (part : Option Name) (kept-is : part ≡ part_of id.partition id.digest (in_order h.schema.window h.log)) where
    opened : session_of h.sessions (r - 1) ≡ Some s
    opened = sym at ∙ begun

    has-session : Has (table_at now).sessions r
    has-session = has-session-at s begun

    kept-part : (o : Option Name) → part ≡ o → kept_part (table_at now).window id.partition id.digest ≡ o
    kept-part o f = subst (λ (w : Held). kept_part (table_at w).window id.partition id.digest ≡ o) e (kept-seen h id.partition id.digest part kept-is ∙ f)

    pub is-kept : (a : Name) → part ≡ Some a → HasCause (allocate.Duplicate a)
    is-kept a f = (has-session, free, kept-part (Some a) f)

    pub session-open : is_open h.tree s ≡ true
    session-open = (k.held.tree.sessions s).1 (r - 1, opened)

    module _ (new : part ≡ None) where
      at-limit : (l : Limit × ℕ) → allocate_limit now.next now.log id.partition ≡ Some l → HasCause (allocate.LimitReached l.0 l.1)
      at-limit l f = (has-session, free, kept-part None new, f)

      pub is-full : (x : AllocateError) → option_map (λ l. allocate.LimitReached l.0 l.1) (allocate_limit now.next now.log id.partition) ≡ Some x → HasCause x
      is-full x f = go (allocate_limit now.next now.log id.partition) refl f
        where
          go : (o : Option (Limit × ℕ)) → allocate_limit now.next now.log id.partition ≡ o → option_map (λ l. allocate.LimitReached l.0 l.1) o ≡ Some x → HasCause x
          go None i q = absurd (cc)
          go (Some l) i q = let w : allocate.LimitReached l.0 l.1 ≡ x = cc in subst HasCause w (at-limit l i)

      pub no-number : (n : NumberError) → IsNumberError (number_limit h.next id.partition) n → (x : AllocateError) → IsSameLimit n x → HasCause x
      no-number (number.LimitReached limit value) f x q = subst HasCause (sym q) (at-limit (limit, value) (subst (λ (w : Held). allocate_limit w.next w.log id.partition ≡ Some (limit, value)) e (limit-some h.next h.log id.partition (limit, value) f)))
      no-number number.Memory f x q = subst HasCause (sym q) tt

      module _ (width : IsPartition id.partition) (within : number_limit h.next id.partition ≡ None) (few : client_count h.log < 32768) (t : TreeView) (done : t ≡ after_all h.tree (take_ops id.partition s (next_of h.next id.partition)))
          (next : Nexts) (next-is : next ≡ with_next h.next id.partition (next_number h.next id.partition + 1)) where
        abbrev pub v : TableView
        v = table_of h

        room : HasRoom h.next id.partition
        room = limit-none h.next id.partition within

        may : MayAllocate id.partition s v
        may = record {
          is_partition = width;
          is_open = (r - 1, opened);
          partitions = λ q. let z = next-none h.next id.partition q in let f = HasRoom.partitions room in grind (arith, nat_tests);
          numbers = HasRoom.numbers room;
        }

        steps : Steps entry_bytes h.tree (allocate_ops id.partition s v) (after_allocate id.partition s v)
        steps = allocate-steps entry_bytes h.tree v k.held id.partition s may

        abbrev pub after : Held
        after = record h { next = next; tree = t }

        table : IsTable entry_bytes t (after_allocate id.partition s v)
        table = subst (λ (u : TreeView). IsTable entry_bytes u (after_allocate id.partition s v)) (sym done) (Steps.table steps)

        next-taken : taken h.next id.partition ≡ next
        next-taken = view.taken-same h.next id.partition (next_number h.next id.partition + 1) k.held.sound.nexts refl ∙ sym next-is

        same : ◌≡◌ {A = TableView} (record (after_allocate id.partition s v) { holders = holders_in t }) (table_of after)
        same = ap (λ (xs : Nexts). record v { next = xs; holders = holders_in t }) next-taken

        pub allocated-tree : IsTableTree after tokens counts
        allocated-tree = record {
          held = held-held entry_bytes after (after_allocate id.partition s v) table same;
          counted = record { clients = k.counted.clients; workers = k.counted.workers; mutations = k.counted.mutations; blocks = k.counted.blocks; window = k.counted.window };
          places = k.places;
        }

        pub allocated-seen : (n : ℕ) → n ≡ next_number h.next id.partition → Allocates (table_at now) r id.partition id.digest n (table_at after)
        allocated-seen n f = subst (λ (w : Held). Allocates (table_at w) r id.partition id.digest n (table_at after)) e
            (subst (λ (m : ℕ). Allocates (table_at h) r id.partition id.digest m (table_at after)) (sym f)
            (subst (λ (u : TableView). Allocates (table_at h) r id.partition id.digest (next_number h.next id.partition) (shown u)) (sym (held-table entry_bytes after (after_allocate id.partition s v) table same))
            (subst (λ (q : ℕ). Allocates (table_at h) q id.partition id.digest (next_number h.next id.partition) (shown (after_allocate id.partition s v))) back
            (allocate-bridge v k.held.sound (r - 1) s id.partition id.digest opened may few (unkept part new id.partition id.digest h kept-is)))))
