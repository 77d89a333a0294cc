-- A client's inserts of one block: what it finds of the table, and what it knows then.
use Rattle.std.proofs.Common.{◌≡◌, ℕ, ◌+◌, ◌≤◌, inl, inr, Bool, true, false, cond, List, ◌∷◌, length, refl, sym, ap, subst, arith, ◌∙◌, nat_le, nat_lt}
use Rattle.std.proofs.lemmas.Bool.Decides.{nat_tests}
use Rattle.std.specs.Prelude.{IfOk, IfSome}
use Rattle.std.specs.declared.result.Result.{Result}
use Rattle.std.specs.declared.result.Result.TheVariants.{Ok, Err}
use Rattle.std.specs.declared.alloc.AllocError.{AllocError}
use Rattle.std.specs.declared.option.Option.{Option}
use Rattle.std.specs.declared.option.Option.TheVariants.{Some, None}
use Rattle.rmt_values.specs.Rows.{Shape}
use Rattle.rmt_values.specs.declared.limit.Limit.{Limit}
use Rattle.rmt_names.specs.Names.{Name, block_name}
use Rattle.rmt_entries.specs.declared.entry.Entry.{Entry}
use Rattle.rmt_entries.specs.declared.entry.Entry.TheVariants.{Get}
use Rattle.rmt_model.specs.Window.{kept}
use Rattle.rmt_model.specs.BlockNumbers.{next_number, with_next}
use Rattle.rmt_model.specs.EntryLimits.{allocate_limit, commit_limit}
use Rattle.rmt_model.specs.Quorum.{Quorum, quorum_after_block}
use Rattle.rmt_events.specs.Views.{Block, Table}
use Rattle.rmt_events.specs.Clusters.{values_of, values_in}
use Rattle.rmt_events.specs.TableCalls.{kept_part, Allocates, Commits}
use Rattle.rmt_events.specs.TableRefusals.{HasQuorum, AreTooFew, MeetsPending, NoNumber}
use Rattle.rmt_table_model.specs.Held.{Held}
use Rattle.rmt_table.specs.TableTrees.{table_at}
use Rattle.rmt_table.specs.Causes.{allocate_cause}
use Rattle.rmt_table.specs.declared.allocate_error.AllocateError.{AllocateError}
use Rattle.rmt_table.specs.declared.allocate_error.AllocateError.TheVariants as allocate
use Rattle.rmt_table.specs.declared.lock.Lock.{Lock}
use Rattle.rmt_block.specs.declared.block_id.BlockId.{BlockId}
use Rattle.rmt_reply.specs.declared.piece.Piece.TheVariants as pieces
use Rattle.rmt_reply.specs.declared.refusal.Refusal.{Refusal}
use Rattle.rmt_reply.specs.declared.refusal.Refusal.TheVariants.{LimitReached, TooFewLive, QuorumPending}
use Rattle.rmt_statement_model.specs.TableStates.{learned, kept_with}
use Rattle.rmt_statement_model.specs.QuorumCopies.{count_live}
use Rattle.rmt_statement_model.specs.Inserts.{Asked, number_limit, with_number, refused_waiting, quorum_refusal, Repeats, LacksQuorum, LacksNumber, LacksRoom, Refuses}
use Rattle.rmt_clients.specs.Clients.{Client, known_table, KnowsTable, AreAccepted, AreClear, StepsTo}
use Rattle.rmt_clients.specs.ClientBlocks.{MeetsLimit}
use Rattle.rmt_clients.proofs.ClientRests.{knows-itself, steps-now, changes-as}
use Rattle.rmt_clients.proofs.ClientInserts.{meets-limit, repeated-here, no-quorum-here, no-number-here, no-room-here}
use Rattle.rmt_shared.specs.SharedTables.{HasBlocks}
use Rattle.rmt_pass.specs.Passes.{PassView, SeesAs, client_at, up_in}
use Rattle.rmt_pass.specs.InsertSteps.{HoldsLock, AreOpen, IsIdOf, IsUnnumbered, Numbers, HoldsNumber, GoesIn}
use Rattle.rmt_pass.specs.declared.numbered.Numbered.{Numbered}
use Rattle.rmt_pass.proofs.OwnLemmas.{stays}

-- ---- the quorum

-- none keeps the block out
pub quorum-none : (up : ℕ → Bool) (p : Client) (t : Held) (need : ℕ) → SeesAs p t → AreOpen up t → HasQuorum (table_at t) need → quorum_refusal up (known_table p) need ≡ None
quorum-none up p t need s o q = rw enough (go (nat_le 2 need) refl)
  where
    enough : nat_lt (count_live up) need ≡ false
    enough = let e = q.enough in let c = o.count in grind (arith, nat_tests)

    go : (b : Bool) → nat_le 2 need ≡ b → cond b (refused_waiting p.quorum.pending) None ≡ None
    go true e = ap (λ (x : Quorum). refused_waiting x.pending) s.quorum ∙ ap refused_waiting (q.quiet (let l : 2 ≤ need = grind (arith, nat_tests) in l))
    go false e = refl

-- too few replicas are up for it
pub quorum-few : (up : ℕ → Bool) (p : Client) (t : Held) (need live needed : ℕ) → AreOpen up t → AreTooFew (table_at t) need live needed → quorum_refusal up (known_table p) need ≡ Some (TooFewLive live needed)
quorum-few up p t need live needed o f =
    let l = f.0 in
    let m = f.1 in
    let k = f.2 in
    let c = o.count in
    let few : nat_lt (count_live up) need ≡ true = grind (arith, nat_tests) in
    let same : count_live up ≡ live = sym c ∙ sym l in
    rw few (ap (λ i. Some (TooFewLive i need)) same ∙ ap (λ i. Some (TooFewLive live i)) (sym m))

-- a part waits for its own
pub quorum-waits : (up : ℕ → Bool) (p : Client) (t : Held) (need : ℕ) (part : Name) → SeesAs p t → AreOpen up t → MeetsPending (table_at t) need part → quorum_refusal up (known_table p) need ≡ Some (QuorumPending part)
quorum-waits up p t need part s o m =
    let e = m.0 in
    let f = m.1 in
    let c = o.count in
    let enough : nat_lt (count_live up) need ≡ false = grind (arith, nat_tests) in
    let asked : nat_le 2 need ≡ true = grind (arith, nat_tests) in
    rw (enough, asked) (ap (λ (x : Quorum). refused_waiting x.pending) s.quorum ∙ (ap refused_waiting m.3 ∙ ap (λ (z : Name). Some (QuorumPending z)) m.4))

-- ---- what is read of the table

-- which part an id is kept with
pub kept-seen : (p : Client) (t : Held) (b : Block) (o : Option ℕ) (digest : List ℕ) → SeesAs p t → o ≡ b.partition → digest ≡ b.digest → kept_with (known_table p) b ≡ kept_part (table_at t).window o digest
kept-seen p t b o digest s f g =
    ap (λ (x : Shape). kept_part (kept x.window p.log) b.partition b.digest) s.schema
    ∙ (ap (λ (l : List Entry). kept_part (kept t.schema.window l) b.partition b.digest) s.log
    ∙ (ap (λ (x : Option ℕ). kept_part (kept t.schema.window t.log) x b.digest) (sym f)
    ∙ ap (λ (x : List ℕ). kept_part (kept t.schema.window t.log) o x) (sym g)))

-- which limit a number would pass
pub number-seen : (p : Client) (t : Held) (b : Block) (o : Option ℕ) → SeesAs p t → o ≡ b.partition → number_limit (known_table p) b ≡ allocate_limit t.next t.log o
number-seen p t b o s f =
    ap (λ (x : List (Option ℕ × ℕ)). allocate_limit x p.log b.partition) s.next
    ∙ (ap (λ (l : List Entry). allocate_limit t.next l b.partition) s.log
    ∙ ap (λ (x : Option ℕ). allocate_limit t.next t.log x) (sym f))

-- whatever limit one more block meets with the values that the table has, it meets
pub room-seen : (O : Block → Type 0) (p : Client) (t : Held) (b : Block) (limit : Option (Limit × ℕ)) → SeesAs p t → HasBlocks O t → commit_limit t.log t.values (values_of t.schema b.rows) ≡ limit → AreClear O → MeetsLimit O p b limit
room-seen O p t b limit s h e clear =
    meets-limit O clear p b limit h.blocks (subst (λ (l : List Entry). AreAccepted O l h.blocks) (sym s.log) h.accepted)
    (ap (λ (l : List Entry). commit_limit l (values_in p.schema h.blocks) (values_of p.schema b.rows)) s.log
    ∙ (ap (λ (x : Shape). commit_limit t.log (values_in x h.blocks) (values_of x b.rows)) s.schema
    ∙ (ap (λ (n : ℕ). commit_limit t.log n (values_of t.schema b.rows)) (sym h.counted) ∙ e)))

-- ---- a number is taken

-- the client has seen that it took a number
pub record SeesNumber (p : Client) (u : Held) (q : Client) : Type 0 where
  pub seen : q ≡ record p { next = u.next }

pub takes : (up : ℕ → Bool) (p : Client) (t u : Held) (a : Asked) (b : Block) (lock : Lock) (q : Client) → SeesAs p t → AreOpen up t → IsIdOf b lock.id → lock.replica ≡ a.writer → lock.number ≡ next_number t.next lock.id.partition → HasQuorum (table_at t) a.need → Allocates (table_at t) a.writer lock.id.partition lock.id.digest lock.number (table_at u) → SeesNumber p u q → HoldsNumber up a b lock p q
takes up p t u a b lock q s o id writer number quorum c n = record {
  takes = record {
    is_new = record {
      quorum = quorum-none up p t a.need s o quorum;
      unkept = kept-seen p t b lock.id.partition lock.id.digest s id.partition id.digest ∙ c.unkept;
    };
    number = number-seen p t b lock.id.partition s id.partition ∙ c.within;
  };
  number = at;
  writer = writer;
  id = id;
  is = n.seen ∙ ap (λ (x : List (Option ℕ × ℕ)). record p { next = x }) next;
}
  where
    at : lock.number ≡ next_number p.next b.partition
    at = number ∙ (ap (λ (x : List (Option ℕ × ℕ)). next_number x lock.id.partition) (sym s.next) ∙ ap (λ (x : Option ℕ). next_number p.next x) id.partition)

    next : u.next ≡ with_next p.next b.partition (next_number p.next b.partition + 1)
    next =
        ap (λ (x : Table). x.next) c.change
        ∙ (ap (λ (x : List (Option ℕ × ℕ)). with_next x lock.id.partition (lock.number + 1)) (sym s.next)
        ∙ (ap (λ (x : Option ℕ). with_next p.next x (lock.number + 1)) id.partition
        ∙ ap (λ (k : ℕ). with_next p.next b.partition (k + 1)) at))

-- ---- the block goes in

-- what the client says of the table before it took the number is so still, but for that number
pub before-seen : (up : ℕ → Bool) (a : Asked) (b : Block) (lock : Lock) (before now : Client) → HoldsNumber up a b lock before now → (now.schema ≡ before.schema) × (now.log ≡ before.log) × (now.quorum ≡ before.quorum)
before-seen up a b lock before now h = (ap (λ (x : Client). x.schema) h.is, ap (λ (x : Client). x.log) h.is, ap (λ (x : Client). x.quorum) h.is)

-- the client has seen its own block, which is known at its writer
pub record SeesBlock (now : Client) (u : Held) (r place : ℕ) (q : Client) : Type 0 where
  pub sees : SeesAs q u
  pub schema : q.schema ≡ now.schema
  pub fetching : (k : ℕ) → q.fetching k ≡ now.fetching k
  pub known : (k i : ℕ) → q.known k i ≡ learned now.known r place k i

pub goes-in : (O : Block → Type 0) (up : ℕ → Bool) (before now : Client) (t u : Held) (a : Asked) (b : Block) (lock : Lock) (q : Client) → HoldsNumber up a b lock before now → SeesAs now t → HasBlocks O t → O b → Commits (table_at t) lock.id.partition lock.number lock.id.digest lock.replica a.need (values_of t.schema b.rows) (table_at u) → SeesBlock now u lock.replica (length t.log) q → GoesIn O a b (length t.log) before q
goes-in O up before now t u a b lock q h s blocks offered c o = record {
  offered = offered;
  at = ap (λ (l : List Entry). length l) (sym log);
  room = λ clear. limit clear;
  after = record {
    schema = o.schema ∙ same.0;
    log = o.sees.log ∙ (ap (λ (x : Table). x.log) c.change ∙ get);
    next = o.sees.next ∙ (ap (λ (x : Table). x.next) c.change ∙ (sym s.next ∙ ap (λ (x : Client). x.next) h.is));
    quorum = o.sees.quorum ∙ (ap (λ (x : Table). x.quorum) c.change ∙ waits);
    fetching = λ k. o.fetching k ∙ ap (λ (x : Client). x.fetching k) h.is;
    known = λ k i. o.known k i ∙ (ap (λ (x : Client). learned x.known lock.replica (length t.log) k i) h.is
        ∙ (ap (λ (r : ℕ). learned before.known r (length t.log) k i) h.writer ∙ ap (λ (l : List Entry). learned before.known a.writer (length l) k i) (sym log)));
  };
}
  where
    same : (now.schema ≡ before.schema) × (now.log ≡ before.log) × (now.quorum ≡ before.quorum)
    same = before-seen up a b lock before now h

    log : before.log ≡ t.log
    log = sym same.1 ∙ s.log

    get : (Get lock.id.partition lock.number lock.id.digest lock.replica a.need ∷ t.log) ≡ (Get b.partition (next_number before.next b.partition) b.digest a.writer a.need ∷ before.log)
    get =
        ap (λ (x : Option ℕ). Get x lock.number lock.id.digest lock.replica a.need ∷ t.log) h.id.partition
        ∙ (ap (λ (n : ℕ). Get b.partition n lock.id.digest lock.replica a.need ∷ t.log) h.number
        ∙ (ap (λ (d : List ℕ). Get b.partition (next_number before.next b.partition) d lock.replica a.need ∷ t.log) h.id.digest
        ∙ (ap (λ (r : ℕ). Get b.partition (next_number before.next b.partition) b.digest r a.need ∷ t.log) h.writer
        ∙ ap (λ (l : List Entry). Get b.partition (next_number before.next b.partition) b.digest a.writer a.need ∷ l) (sym log))))

    waits : quorum_after_block (block_name lock.id.partition lock.number) a.need t.quorum ≡ quorum_after_block (block_name b.partition (next_number before.next b.partition)) a.need before.quorum
    waits =
        ap (λ (x : Option ℕ). quorum_after_block (block_name x lock.number) a.need t.quorum) h.id.partition
        ∙ (ap (λ (n : ℕ). quorum_after_block (block_name b.partition n) a.need t.quorum) h.number
        ∙ ap (λ (x : Quorum). quorum_after_block (block_name b.partition (next_number before.next b.partition)) a.need x) (sym s.quorum ∙ same.2))

    limit : AreClear O → MeetsLimit O before b None
    limit clear held w =
        ap (λ (l : List Entry). commit_limit l (values_in before.schema held) (values_of before.schema b.rows)) (sym same.1)
        ∙ (ap (λ (x : Shape). commit_limit now.log (values_in x held) (values_of x b.rows)) (sym same.0)
        ∙ room-seen O now t b None s blocks c.within clear held (subst (λ (l : List Entry). AreAccepted O l held) (sym same.1) w))

-- ---- the block changes nothing

-- its id is kept
pub repeats : (O : Block → Type 0) (up : ℕ → Bool) (p : Client) (t : Held) (a : Asked) (b : Block) (id : BlockId) (part : Name) → SeesAs p t → AreOpen up t → IsIdOf b id → HasQuorum (table_at t) a.need → kept_part (table_at t).window id.partition id.digest ≡ Some part → StepsTo O p (λ at u. Repeats up at a b (pieces.Duplicate part) u) p
repeats O up p t a b id part s o i q k clear =
    steps-now O p p (λ at u. Repeats up at a b (pieces.Duplicate part) u) (repeated-here O up p a b part p (record {
      quorum = quorum-none up p t a.need s o q;
      kept = kept-seen p t b id.partition id.digest s i.partition i.digest ∙ k;
      after = knows-itself p;
    }))

-- the quorum keeps it out
pub lacks-quorum : (O : Block → Type 0) (up : ℕ → Bool) (p : Client) (a : Asked) (b : Block) (why : Refusal) → quorum_refusal up (known_table p) a.need ≡ Some why → StepsTo O p (λ at u. Refuses true up at a b why u) p
lacks-quorum O up p a b why e clear =
    steps-now O p p (λ at u. Refuses true up at a b why u) (λ at f.
    changes-as O p (LacksQuorum up at a why) (Refuses true up at a b why) (λ u h. inl h)
    (no-quorum-here O up p a why p (record { reply = e; after = knows-itself p }) at f))

-- it gets no number
pub lacks-number : (O : Block → Type 0) (up : ℕ → Bool) (p : Client) (t : Held) (a : Asked) (b : Block) (id : BlockId) (limit : Limit) (value : ℕ) → SeesAs p t → AreOpen up t → IsIdOf b id → HasQuorum (table_at t) a.need → kept_part (table_at t).window id.partition id.digest ≡ None → allocate_limit t.next t.log id.partition ≡ Some (limit, value) → StepsTo O p (λ at u. Refuses true up at a b (LimitReached limit value) u) p
lacks-number O up p t a b id limit value s o i q k e clear =
    steps-now O p p (λ at u. Refuses true up at a b (LimitReached limit value) u) (λ at f.
    changes-as O p (LacksNumber up at a b (LimitReached limit value)) (Refuses true up at a b (LimitReached limit value)) (λ u h. inr (inl h))
    (no-number-here O up p a b limit value p (record {
      is_new = record {
        quorum = quorum-none up p t a.need s o q;
        unkept = kept-seen p t b id.partition id.digest s i.partition i.digest ∙ k;
      };
      reached = number-seen p t b id.partition s i.partition ∙ e;
      after = knows-itself p;
    }) at f))

-- there is no room for it; its number is used up
pub lacks-room : (O : Block → Type 0) (up : ℕ → Bool) (before now : Client) (t : Held) (a : Asked) (b : Block) (lock : Lock) (limit : Limit) (value : ℕ) → HoldsNumber up a b lock before now → SeesAs now t → HasBlocks O t → commit_limit t.log t.values (values_of t.schema b.rows) ≡ Some (limit, value) → StepsTo O before (λ at u. LacksRoom up at a b (LimitReached limit value) u) now
lacks-room O up before now t a b lock limit value h s blocks e clear =
    steps-now O before now (λ at u. LacksRoom up at a b (LimitReached limit value) u) (no-room-here O up before a b limit value now h.takes (record {
      reached = reached;
      after = subst (λ (x : Client). KnowsTable x (with_number (known_table before) b)) (sym h.is) (record { schema = refl; log = refl; next = refl; quorum = refl; fetching = λ r. refl; known = λ r i. refl });
    }))
  where
    same : (now.schema ≡ before.schema) × (now.log ≡ before.log) × (now.quorum ≡ before.quorum)
    same = before-seen up a b lock before now h

    reached : MeetsLimit O before b (Some (limit, value))
    reached held w =
        ap (λ (l : List Entry). commit_limit l (values_in before.schema held) (values_of before.schema b.rows)) (sym same.1)
        ∙ (ap (λ (x : Shape). commit_limit now.log (values_in x held) (values_of x b.rows)) (sym same.0)
        ∙ room-seen O now t b (Some (limit, value)) s blocks e clear held (subst (λ (l : List Entry). AreAccepted O l held) (sym same.1) w))

-- ---- what the table answers

-- a block that got no number, for the reason that the table gives
pub unnumbered-so : (Offered : ℕ → Block → Type 0) (p : PassView) (k : ℕ) (t : Held) (a : Asked) (b : Block) (id : BlockId) (e : AllocateError) (r : Result Numbered AllocError) → p.gave_up ≡ false → SeesAs (client_at p k) t → AreOpen (up_in p.up) t → IsIdOf b id → IfSome (allocate_cause e) (NoNumber (table_at t) a.writer id.partition id.digest a.need) → IsUnnumbered e r → IfOk r (λ n. Numbers Offered p k a b n p)
unnumbered-so Offered p k t a b id allocate.NoSession r g s o i n u = absurd u
unnumbered-so Offered p k t a b id (allocate.TooFewLive live needed) r g s o i n u =
    subst (λ (x : Result Numbered AllocError). IfOk x (λ n. Numbers Offered p k a b n p)) (sym u)
    (stays Offered p k (λ at v. Refuses true (up_in p.up) at a b (TooFewLive live needed) v) g (lacks-quorum (Offered k) (up_in p.up) (client_at p k) a b (TooFewLive live needed) (quorum-few (up_in p.up) (client_at p k) t a.need live needed o n.1)))
unnumbered-so Offered p k t a b id (allocate.QuorumPending part) r g s o i n u =
    subst (λ (x : Result Numbered AllocError). IfOk x (λ n. Numbers Offered p k a b n p)) (sym u)
    (stays Offered p k (λ at v. Refuses true (up_in p.up) at a b (QuorumPending part) v) g (lacks-quorum (Offered k) (up_in p.up) (client_at p k) a b (QuorumPending part) (quorum-waits (up_in p.up) (client_at p k) t a.need part s o n.1)))
unnumbered-so Offered p k t a b id (allocate.Duplicate part) r g s o i n u =
    subst (λ (x : Result Numbered AllocError). IfOk x (λ n. Numbers Offered p k a b n p)) (sym u)
    (stays Offered p k (λ at v. Repeats (up_in p.up) at a b (pieces.Duplicate part) v) g (repeats (Offered k) (up_in p.up) (client_at p k) t a b id part s o i n.1 n.2))
unnumbered-so Offered p k t a b id (allocate.LimitReached limit value) r g s o i n u =
    subst (λ (x : Result Numbered AllocError). IfOk x (λ n. Numbers Offered p k a b n p)) (sym u)
    (stays Offered p k (λ at v. Refuses true (up_in p.up) at a b (LimitReached limit value) v) g (lacks-number (Offered k) (up_in p.up) (client_at p k) t a b id limit value s o i n.1 n.2 n.3))
unnumbered-so Offered p k t a b id allocate.Memory r g s o i n u = subst (λ (x : Result Numbered AllocError). IfOk x (λ n. Numbers Offered p k a b n p)) (sym u) tt

-- of every block of that id
pub of-each : (id : BlockId) (r : Result Numbered AllocError) (P : Block → Numbered → Type 0) → ((b : Block) → IsIdOf b id → IfOk r (P b)) → IfOk r (λ n. (b : Block) → IsIdOf b id → P b n)
of-each id (Ok n) P f = f
of-each id (Err e) P f = tt

-- a block that got no number has no lock
pub none-locked : (tables : List Held) (k : ℕ) (e : AllocateError) (r : Result Numbered AllocError) → IsUnnumbered e r → IfOk r (λ n. HoldsLock n tables k)
none-locked tables k allocate.NoSession r u = absurd u
none-locked tables k (allocate.TooFewLive live needed) r u = subst (λ (x : Result Numbered AllocError). IfOk x (λ n. HoldsLock n tables k)) (sym u) tt
none-locked tables k (allocate.QuorumPending part) r u = subst (λ (x : Result Numbered AllocError). IfOk x (λ n. HoldsLock n tables k)) (sym u) tt
none-locked tables k (allocate.Duplicate part) r u = subst (λ (x : Result Numbered AllocError). IfOk x (λ n. HoldsLock n tables k)) (sym u) tt
none-locked tables k (allocate.LimitReached limit value) r u = subst (λ (x : Result Numbered AllocError). IfOk x (λ n. HoldsLock n tables k)) (sym u) tt
none-locked tables k allocate.Memory r u = subst (λ (x : Result Numbered AllocError). IfOk x (λ n. HoldsLock n tables k)) (sym u) tt
