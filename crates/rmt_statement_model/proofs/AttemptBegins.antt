-- The attempt to insert a block begins, or its block is refused: why it goes so, and what the cluster shows then.
use Rattle.std.proofs.Common.{◌≡◌, ℕ, ◌+◌, inl, inr, true, List, refl, sym, ap, subst, ◌∙◌}
use Rattle.std.specs.declared.option.Option.{Option}
use Rattle.std.specs.declared.option.Option.TheVariants.{Some, None}
use Rattle.std.specs.declared.sync.Arc.{Arc}
use Rattle.std.specs.declared.alloc.Global.{Global}
use Rattle.std.specs.Arc.{arc_value}
use Rattle.rmt_values.specs.declared.limit.Limit.{Limit}
use Rattle.rmt_names.specs.Names.{Name}
use Rattle.rmt_block.specs.declared.block.Block.{Block as Raw}
use Rattle.rmt_model.specs.Words.{Has}
use Rattle.rmt_model.specs.BlockNumbers.{next_number, with_next}
use Rattle.rmt_events.specs.Views.{Block, Replica, Lock, Table}
use Rattle.rmt_events.specs.TableCalls.{with_lock, kept_part}
use Rattle.rmt_events.specs.Clusters.{without_kinds, Attempt, Cluster}
use Rattle.rmt_events.specs.Whole.{Follows, IsWhole}
use Rattle.rmt_events.specs.ClusterChanges.{IsNumbered}
use Rattle.rmt_events.specs.TableRefusals.{HasQuorum, NoNumber}
use Rattle.rmt_events.specs.InsertEvents.{BeginsAttempt}
use Rattle.rmt_events.specs.Steps.{Does, Step}
use Rattle.rmt_events.proofs.TableSteps.{lock-new}
use Rattle.rmt_events.proofs.WholeReplica.{follower}
use Rattle.rmt_statement_model.specs.TableStates.{TableState, kept_with}
use Rattle.rmt_statement_model.specs.Inserts.{Asked, number_for, with_number, number_limit}
use Rattle.rmt_statement_model.specs.Shows.{Shows, ups}
use Rattle.rmt_statement_model.proofs.UpLaws.{up-told}
use Rattle.rmt_statement_model.specs.Attempts.{IsAllocateReply, attempt_of, IsOpen}
use Rattle.rmt_statement_model.proofs.SwitchLaws.{IsNoSwitch}
use Rattle.rmt_statement_model.proofs.ShownSteps.{kept-shown, number-shown, TellsNoCommit, keeps-stored, shows-next, shows-quiet}
use Rattle.rmt_events.specs.declared.event.Event.{Event}
use Rattle.rmt_events.specs.declared.event.Event.TheVariants as ev
use Rattle.rmt_events.specs.declared.reply.Reply.{Reply}
use Rattle.rmt_events.specs.declared.reply.Reply.TheVariants as rp
use Rattle.rmt_events.specs.declared.step_refused.StepRefused.{StepRefused}
use Rattle.rmt_events.specs.declared.step_refused.StepRefused.TheVariants as rf

-- a block as an event has it
abbrev pub Offered : Type 0
Offered = Arc Raw Global

-- ---- a number is asked for

-- the block gets the next number of its partition, and the cluster shows the table, that number taken
pub record Begins (t : TableState) (b : Block) (n : ℕ) (u : Cluster) : Type 0 where
  pub unkept : kept_with t b ≡ None
  pub number : number_limit t b ≡ None
  pub given : n ≡ number_for t b
  pub shows : Shows u (with_number t b)

-- a replica that is up has a session
refused-number : (s : Cluster) (r need : ℕ) (b : Block) (why : StepRefused) → Has s.table.sessions r → NoNumber s.table r b.partition b.digest need why → IsAllocateReply (rp.Refused why)
refused-number s r need b rf.NoSession h c = absurd (c h)
refused-number s r need b (rf.TooFewLive live needed) h c = tt
refused-number s r need b (rf.QuorumPending a) h c = tt
refused-number s r need b (rf.Duplicate a) h c = tt
refused-number s r need b (rf.LimitReached limit value) h c = tt
refused-number s r need b why h c = absurd c

-- nothing else is answered
pub allocate-reply : (s u : Cluster) (r need : ℕ) (raw : Offered) (reply : Reply) (x : Replica) → IsWhole s → ups s r ≡ true → IsNumbered s r x → Step s (ev.Allocate r raw need) reply u → IsAllocateReply reply
allocate-reply s u r need raw reply x w up at k = go k.does
  where
    session : Has s.table.sessions r
    session = subst (λ j. Has s.table.sessions j) at.number ((Follows.session (follower s r x w at)).0 (up-told s r x w at up))

    go : Does s (ev.Allocate r raw need) reply k.after → IsAllocateReply reply
    go (inl d) = subst (λ (y : Reply). IsAllocateReply y) (sym d.answer) tt
    go (inr d) = subst (λ (y : Reply). IsAllocateReply y) (sym d.answer) (refused-number s r need (without_kinds (arc_value raw)) d.why session d.cause)

-- ---- the block gets a number

-- what begins is the attempt of this reply
same-attempt : (id n m k : ℕ) (a : Asked) (b : Block) → id ≡ m → n ≡ k → ◌≡◌ {A = Attempt} (record { id = m; replica = a.writer; block = b; number = k; need = a.need }) (attempt_of id a b n)
same-attempt id n m k a b e f = cc

-- the attempt is open
opens : (s u : Cluster) (e : Event) (a : Asked) (id n : ℕ) (b : Block) → (k : Step s e (rp.Attempt id n) u) → BeginsAttempt s a.writer b a.need (rp.Attempt id n) k.after → IsOpen u id a b n
opens s u e a id n b k d =
    record {
      there = subst (λ (xs : List Attempt). Has xs (attempt_of id a b n)) (sym (ap (λ (x : Cluster). x.attempts) k.stored ∙ ap (λ (x : Cluster). x.attempts) d.change)) (inl (same-attempt id n s.attempts_made d.number a b is-id is-number));
      quorum = subst (λ (x : Table). HasQuorum x a.need) (sym table-is) (record { enough = d.quorum.enough; quiet = d.quorum.quiet });
      locked = record {
        lock = lock;
        is_in = subst (λ (x : Table). Has x.locks (record { partition = b.partition; number = d.number; owner = a.writer })) (sym table-is) (lock-new lock s.table.locks);
        partition = refl;
        number = sym is-number;
      };
      unkept = ap (λ (x : Table). kept_part x.window b.partition b.digest) table-is ∙ d.call.unkept;
    }
  where
    is-id : id ≡ s.attempts_made
    is-id = let q = d.answer in cc

    is-number : n ≡ d.number
    is-number = let q = d.answer in cc

    lock : Lock
    lock = record { partition = b.partition; number = d.number; owner = a.writer }

    table-is : u.table ≡ record s.table { next = with_next s.table.next b.partition (d.number + 1); locks = with_lock (record { partition = b.partition; number = d.number; owner = a.writer }) s.table.locks }
    table-is = ap (λ (x : Cluster). x.table) k.stored ∙ (ap (λ (x : Cluster). x.table) d.change ∙ d.call.change)

-- the number is the table's next
begins : (s u : Cluster) (e : Event) (r need id n : ℕ) (b : Block) → IsWhole s → IsNoSwitch e → (k : Step s e (rp.Attempt id n) u) → BeginsAttempt s r b need (rp.Attempt id n) k.after → TellsNoCommit e (rp.Attempt id n) → (t : TableState) → Shows s t → Begins t b n u
begins s u e r need id n b w z k d f t h =
    record {
      unkept = kept-shown s t b w h ∙ d.call.unkept;
      number = number-shown s t b h ∙ d.call.within;
      given = is-number ∙ (d.call.number ∙ ap (λ (x : List (Option ℕ × ℕ)). next_number x b.partition) (sym h.table.next));
      shows = shows-next s u e (rp.Attempt id n) t (with_next t.next b.partition (number_for t b + 1)) w z k (keeps-stored s u e (rp.Attempt id n) k (ap (λ (x : Table). x.schema) table-is) (ap (λ (x : Table). x.log) table-is) (ap (λ (x : Table). x.quorum) table-is) (ap (λ (x : Cluster). x.events) d.change) f)
          (numbers d.number d.call.number ∙ sym (ap (λ (x : Cluster). x.table.next) k.stored ∙ ap (λ (x : Table). x.next) table-is)) h;
    }
  where
    is-number : n ≡ d.number
    is-number = let q = d.answer in cc

    table-is : k.after.table ≡ record s.table { next = with_next s.table.next b.partition (d.number + 1); locks = with_lock (record { partition = b.partition; number = d.number; owner = r }) s.table.locks }
    table-is = ap (λ (x : Cluster). x.table) d.change ∙ d.call.change

    numbers : (m : ℕ) → m ≡ next_number s.table.next b.partition → with_next t.next b.partition (number_for t b + 1) ≡ with_next s.table.next b.partition (m + 1)
    numbers m q = ap (λ (x : List (Option ℕ × ℕ)). with_next x b.partition (next_number x b.partition + 1)) h.table.next ∙ ap (λ i. with_next s.table.next b.partition (i + 1)) (sym q)

-- the attempt is open, under the table's next number, and no quorum kept it out
pub begun : (s u : Cluster) (a : Asked) (raw : Offered) (id n : ℕ) → IsWhole s → Step s (ev.Allocate a.writer raw a.need) (rp.Attempt id n) u
    → IsOpen u id a (without_kinds (arc_value raw)) n × HasQuorum s.table a.need × ((t : TableState) → Shows s t → Begins t (without_kinds (arc_value raw)) n u)
begun s u a raw id n w k = go k.does
  where
    go : Does s (ev.Allocate a.writer raw a.need) (rp.Attempt id n) k.after → IsOpen u id a (without_kinds (arc_value raw)) n × HasQuorum s.table a.need × ((t : TableState) → Shows s t → Begins t (without_kinds (arc_value raw)) n u)
    go (inl d) = (opens s u (ev.Allocate a.writer raw a.need) a id n (without_kinds (arc_value raw)) k d, d.quorum, begins s u (ev.Allocate a.writer raw a.need) a.writer a.need id n (without_kinds (arc_value raw)) w tt k d (λ xs i. refl))
    go (inr d) = let e = d.answer in absurd (cc)

-- ---- the block gets none

-- why the block gets none, and nothing changes
pub record Declined (s u : Cluster) (a : Asked) (raw : Offered) (why : StepRefused) : Type 0 where
  pub cause : NoNumber s.table a.writer (arc_value raw).partition (arc_value raw).digest a.need why
  pub shows : (t : TableState) → Shows s t → Shows u t

pub declined : (s u : Cluster) (a : Asked) (raw : Offered) (why : StepRefused) → IsWhole s → Step s (ev.Allocate a.writer raw a.need) (rp.Refused why) u → Declined s u a raw why
declined s u a raw why w k = go k.does
  where
    go : Does s (ev.Allocate a.writer raw a.need) (rp.Refused why) k.after → Declined s u a raw why
    go (inl d) = let e = d.answer in absurd (cc)
    go (inr d) =
        let e : d.why ≡ why = let q = d.answer in cc in
        record {
          cause = subst (λ (y : StepRefused). NoNumber s.table a.writer (arc_value raw).partition (arc_value raw).digest a.need y) e d.cause;
          shows = λ t h. shows-quiet s u (ev.Allocate a.writer raw a.need) (rp.Refused why) t w tt k (ap (λ (x : Cluster). x.table) d.unchanged) (ap (λ (x : Cluster). x.events) d.unchanged) (λ xs i. refl) h;
        }

-- its id is kept already
pub duplicate : (s u : Cluster) (a : Asked) (raw : Offered) (part : Name) → IsWhole s → Step s (ev.Allocate a.writer raw a.need) (rp.Refused (rf.Duplicate part)) u
    → HasQuorum s.table a.need × ((t : TableState) → Shows s t → (kept_with t (without_kinds (arc_value raw)) ≡ Some part) × Shows u t)
duplicate s u a raw part w k =
    let d = declined s u a raw (rf.Duplicate part) w k in
    (d.cause.1, λ t h. (kept-shown s t (without_kinds (arc_value raw)) w h ∙ d.cause.2, d.shows t h))

-- one more number would pass the limit
pub no-number : (s u : Cluster) (a : Asked) (raw : Offered) (limit : Limit) (value : ℕ) → IsWhole s → Step s (ev.Allocate a.writer raw a.need) (rp.Refused (rf.LimitReached limit value)) u
    → HasQuorum s.table a.need × ((t : TableState) → Shows s t → (kept_with t (without_kinds (arc_value raw)) ≡ None) × (number_limit t (without_kinds (arc_value raw)) ≡ Some (limit, value)) × Shows u t)
no-number s u a raw limit value w k =
    let d = declined s u a raw (rf.LimitReached limit value) w k in
    (d.cause.1, λ t h. (kept-shown s t (without_kinds (arc_value raw)) w h ∙ d.cause.2, number-shown s t (without_kinds (arc_value raw)) h ∙ d.cause.3, d.shows t h))
