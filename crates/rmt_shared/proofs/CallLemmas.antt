-- A table after a call takes the place of the table before it.
use Rattle.std.proofs.Common.{◌≡◌, ℕ, zero, suc, ◌+◌, ◌<◌, ◌≤◌, Bool, true, false, cond, List, [], ◌∷◌, refl, length, map, set, get_or, sym, ap, subst, arith, ◌∙◌}
use Rattle.std.proofs.lemmas.List.Sums.{sum_by-cons}
use Rattle.std.specs.Prelude.{IfSome, MatchBool}
use Rattle.std.specs.declared.option.Option.{Option}
use Rattle.std.specs.declared.option.Option.TheVariants.{Some, None}
use Rattle.rmt_values.specs.Rows.{Shape}
use Rattle.rmt_values.specs.declared.checked_mutation.CheckedMutation.{CheckedMutation}
use Rattle.rmt_names.specs.Names.{Name}
use Rattle.rmt_entries.specs.declared.entry.Entry.{Entry}
use Rattle.rmt_entries.specs.declared.entry.Entry.TheVariants.{Get, Merge, Mutate, Mutation, DropRange}
use Rattle.rmt_row.specs.Token.{Token}
use Rattle.rmt_block.specs.Blocks.{BlockView, id_of}
use Rattle.rmt_block.specs.declared.block_id.BlockId.{BlockId}
use Rattle.rmt_model.specs.BlockNumbers.{next_number}
use Rattle.rmt_model.specs.Lawful.{mutation_count}
use Rattle.rmt_model.specs.EntryLimits.{is_client, client_count}
use Rattle.rmt_model.specs.Words.{Each}
use Rattle.rmt_events.specs.Views.{Block, Table}
use Rattle.rmt_events.specs.declared.step_refused.StepRefused.{StepRefused}
use Rattle.rmt_events.specs.Clusters.{values_of, without_kinds}
use Rattle.rmt_events.specs.TableCalls.{Allocates, Commits, Unlocks, CreatesMutation, DropsPartition, Closes, Opens, Notes}
use Rattle.rmt_table_model.specs.Held.{Held}
use Rattle.rmt_table.specs.declared.lock.Lock.{Lock}
use Rattle.rmt_table.specs.declared.commit_error.CommitError.{CommitError}
use Rattle.rmt_table.specs.declared.commit_error.CommitError.TheVariants as commit
use Rattle.rmt_table.specs.TableTrees.{table_at, IsReplica, AfterNoCommit, Drops}
use Rattle.rmt_table.specs.Quorums.{IsPendingPart, IsQuorumNote}
use Rattle.rmt_statement_model.specs.Books.{all_clients}
use Rattle.rmt_shared.specs.SharedTables.{NamedTable, named, logs_of, ChangesTable, HasBlocks, AreSharedTables, GainsMerge, GainsMutate, name_at}
use Rattle.rmt_shared.specs.SharedReplicas.{IsNumber}
use Rattle.rmt_shared.specs.ClientCalls.{HasTable, DropsIn, NotesIn}
use Rattle.rmt_shared.proofs.NamedLemmas.{map-length, map-get, map-set, name-of, set-own, set-same, each-set, sessions-at, set-clients}
use Rattle.rmt_shared.proofs.BlockLemmas.{IsOfNoBlock, blocks-stay, blocks-behind, blocks-more, blocks-set}

-- a table may take the place of another: it is the same one with its replicas, it has offered blocks still, and its log has so many
-- more entries of clients
pub record Follows (O : Block → Type 0) (more : ℕ) (old new : Held) : Type 0 where
  pub named_is : named new ≡ named old
  pub sessions : length new.sessions ≡ length old.sessions
  pub counted : client_count new.log ≡ client_count old.log + more
  pub blocks : HasBlocks O old → HasBlocks O new

client-cons : (e : Entry) (log : List Entry) → client_count (e ∷ log) ≡ cond (is_client e) 1 0 + client_count log
client-cons e log = sum_by-cons (λ x. cond (is_client x) 1 0) e log

-- nothing changed
pub same-follows : (O : Block → Type 0) (old new : Held) → new ≡ old → Follows O 0 old new
same-follows O old new e = subst (Follows O 0 old) (sym e) (record { named_is = refl; sessions = refl; counted = omega arith; blocks = λ b. b })

module _ (O : Block → Type 0) (old new : Held) (row : new.row ≡ old.row) (sessions : length new.sessions ≡ length old.sessions) where
  named-same : new.schema ≡ old.schema → named new ≡ named old
  named-same e = ap (λ (s : Shape). record { schema = s; row = new.row }) e ∙ ap (λ (r : List ℕ). record { schema = old.schema; row = r }) row

  -- a call that appends nothing
  pub still-follows : (u : Table) → table_at new ≡ u → u.schema ≡ old.schema → u.log ≡ old.log → u.values ≡ old.values → Follows O 0 old new
  still-follows u is s l v =
      let schema : new.schema ≡ old.schema = ap (λ (t : Table). t.schema) is ∙ s in
      let log : new.log ≡ old.log = ap (λ (t : Table). t.log) is ∙ l in
      let c : client_count new.log ≡ client_count old.log = ap client_count log in
      record {
        named_is = named-same schema;
        sessions = sessions;
        counted = omega (arith, c);
        blocks = blocks-stay O old new schema log (ap (λ (t : Table). t.values) is ∙ v);
      }

  -- a call that appends an entry of no block
  pub entry-follows : (e : Entry) (more : ℕ) (u : Table) → IsOfNoBlock e → cond (is_client e) 1 0 ≡ more → table_at new ≡ u → u.schema ≡ old.schema → u.log ≡ e ∷ old.log → u.values ≡ old.values → Follows O more old new
  entry-follows e more u none m is s l v =
      let schema : new.schema ≡ old.schema = ap (λ (t : Table). t.schema) is ∙ s in
      let log : new.log ≡ e ∷ old.log = ap (λ (t : Table). t.log) is ∙ l in
      let c : client_count new.log ≡ cond (is_client e) 1 0 + client_count old.log = ap client_count log ∙ client-cons e old.log in
      record {
        named_is = named-same schema;
        sessions = sessions;
        counted = omega (arith, c, m);
        blocks = blocks-behind O e old new none schema log (ap (λ (t : Table). t.values) is ∙ v);
      }

  -- a call that appends the Get of an offered block
  pub get-follows : (b : Block) (n source need : ℕ) (u : Table) → O b → table_at new ≡ u → u.schema ≡ old.schema → u.log ≡ Get b.partition n b.digest source need ∷ old.log → u.values ≡ old.values + values_of old.schema b.rows → Follows O 1 old new
  get-follows b n source need u offered is s l v =
      let schema : new.schema ≡ old.schema = ap (λ (t : Table). t.schema) is ∙ s in
      let log : new.log ≡ Get b.partition n b.digest source need ∷ old.log = ap (λ (t : Table). t.log) is ∙ l in
      let c : client_count new.log ≡ 1 + client_count old.log = ap client_count log ∙ client-cons (Get b.partition n b.digest source need) old.log in
      record {
        named_is = named-same schema;
        sessions = sessions;
        counted = omega (arith, c);
        blocks = blocks-more O b n source need old new offered schema log (ap (λ (t : Table). t.values) is ∙ v);
      }

  pub seen-follows : table_at new ≡ table_at old → Follows O 0 old new
  seen-follows e = still-follows (table_at old) e refl refl refl

  pub merge-follows : (done : Bool) (sources : List Name) → MatchBool done (GainsMerge old sources new) (new ≡ old) → Follows O 0 old new
  merge-follows true sources m = entry-follows (Merge m.name sources m.count) 0 _ tt refl m.assigns.change refl refl refl
  merge-follows false sources m = same-follows O old new m

  pub mutate-follows : (done : Bool) (part : Name) (upto : ℕ) → MatchBool done (GainsMutate old part upto new) (new ≡ old) → Follows O 0 old new
  mutate-follows true part upto m = entry-follows (Mutate part m.name upto m.count m.mcount) 0 _ tt refl m.assigns.change refl refl refl
  mutate-follows false part upto m = same-follows O old new m

  pub mutation-follows : (command : CheckedMutation) → CreatesMutation (table_at old) command (table_at new) → Follows O 1 old new
  mutation-follows command m = entry-follows (Mutation (mutation_count old.log) old.next command) 1 _ tt refl m.change refl refl refl

  pub drop-follows : (p : Option ℕ) (n : ℕ) → DropsPartition (table_at old) p n (table_at new) → Follows O 1 old new
  drop-follows p n m = entry-follows (DropRange p n) 1 _ tt refl m.change refl refl refl

  pub allocate-follows : (r : ℕ) (p : Option ℕ) (digest : List ℕ) (n : ℕ) → Allocates (table_at old) r p digest n (table_at new) → Follows O 0 old new
  allocate-follows r p digest n m = still-follows _ m.change refl refl refl

  pub commit-follows : (b : Block) (n r need : ℕ) → O b → Commits (table_at old) b.partition n b.digest r need (values_of old.schema b.rows) (table_at new) → Follows O 1 old new
  commit-follows b n r need offered m = get-follows b n r need _ offered m.change refl refl refl

  -- the block is the one whose id the lock has, and so many values are its own
  pub accepted-follows : (k : Lock) (need : ℕ) (b : BlockView) (values : ℕ) → k.id ≡ id_of b → values ≡ values_of old.schema b.rows → O (without_kinds b) → Commits (table_at old) k.id.partition k.number k.id.digest k.replica need values (table_at new) → Follows O 1 old new
  accepted-follows k need b values i v offered m =
      commit-follows (without_kinds b) k.number k.replica need offered
      (subst (λ n. Commits (table_at old) b.partition k.number b.digest k.replica need n (table_at new)) v
      (subst (λ (x : BlockId). Commits (table_at old) x.partition k.number x.digest k.replica need values (table_at new)) i m))

  pub unlock-follows : (p : Option ℕ) (n : ℕ) → Unlocks (table_at old) p n (table_at new) → Follows O 0 old new
  unlock-follows p n m = still-follows _ m refl refl refl

  pub no-commit-follows : (k : Lock) (e : CommitError) → AfterNoCommit old k e new → Follows O 0 old new
  no-commit-follows k (commit.LockGone n) a = same-follows O old new a
  no-commit-follows k commit.Memory a = same-follows O old new a
  no-commit-follows k (commit.TooFewLive live needed) a = unlock-follows k.id.partition k.number a.seen
  no-commit-follows k (commit.QuorumPending part) a = unlock-follows k.id.partition k.number a.seen
  no-commit-follows k (commit.Duplicate part) a = unlock-follows k.id.partition k.number a.seen
  no-commit-follows k (commit.LimitReached limit value) a = unlock-follows k.id.partition k.number a.seen

  pub open-follows : (r : ℕ) → Opens (table_at old) r (table_at new) → Follows O 0 old new
  open-follows r m = still-follows _ m refl refl refl

  pub close-follows : (r : ℕ) → Closes (table_at old) r (table_at new) → Follows O 0 old new
  close-follows r m = still-follows _ m refl refl refl

  pub note-follows : (r : ℕ) → Notes (table_at old) r (table_at new) → Follows O 0 old new
  note-follows r m = still-follows _ m refl refl refl

  pub noted-follows : (r : ℕ) (part : Name) (noted : Bool) → IsQuorumNote old r part noted new → Follows O 0 old new
  noted-follows r part true n = note-follows r n.seen
  noted-follows r part false n = same-follows O old new n.1

-- ---- under the lock

-- the tables with one in place of another, which the book has counted
pub tables-with : (names : List NamedTable) (replicas : ℕ) (O : ℕ → Block → Type 0) (tables : List Held) (total more now k : ℕ) (old new : Held) → AreSharedTables names replicas O tables total → k < length tables → old ≡ get_or tables k old → Follows (O k) more old new → now ≡ total + more → AreSharedTables names replicas O (set tables k new) now
tables-with names replicas O tables total more now k old new d h at f sum = record {
  are_named = map-set named tables k new ∙ (set-same named tables k old new h at f.named_is ∙ d.are_named);
  sessions = each-set (λ (x : Held). length x.sessions ≡ replicas) tables k old new h at (λ e. f.sessions ∙ e) d.sessions;
  counted = all;
  blocks = blocks-set O tables k old new h at f.blocks d.blocks;
}
  where
    all : now ≡ all_clients (logs_of (set tables k new))
    all =
        let m = map-length (λ (x : Held). x.log) tables in
        let hl : k < length (logs_of tables) = omega (arith, m, h) in
        let a = set-clients (logs_of tables) k new.log [] hl in
        let b : client_count (get_or (logs_of tables) k []) ≡ client_count old.log = ap client_count (map-get (λ (x : Held). x.log) tables k old [] h ∙ ap (λ (x : Held). x.log) (sym at)) in
        let c : all_clients (logs_of (set tables k new)) ≡ all_clients (set (logs_of tables) k new.log) = ap all_clients (map-set (λ (x : Held). x.log) tables k new) in
        let n = f.counted in
        let t = d.counted in
        omega (arith, a, b, c, n, t, sum)

-- the same where no entry of a client was appended
pub tables-still : (names : List NamedTable) (replicas : ℕ) (O : ℕ → Block → Type 0) (tables : List Held) (total k : ℕ) (old new : Held) → AreSharedTables names replicas O tables total → k < length tables → old ≡ get_or tables k old → Follows (O k) 0 old new → AreSharedTables names replicas O (set tables k new) total
tables-still names replicas O tables total k old new d h at f = tables-with names replicas O tables total 0 total k old new d h at f (omega arith)

-- ---- what is told of the table at a place

-- one thing is at a place
one-place : {A : Type 0} (xs : List A) (k : ℕ) (x y : A) → k < length xs → x ≡ get_or xs k x → y ≡ get_or xs k y → x ≡ y
one-place [] k x y h p q = absurd (omega (arith, h))
one-place (z ∷ xs) zero x y h p q = p ∙ sym q
one-place (z ∷ xs) (suc k) x y h p q = one-place xs k x y (omega (arith, h)) p q

-- the table that is lent at a place is the one that is named there
pub named-at : (names : List NamedTable) (tables : List Held) (k : ℕ) (h : Held) → map named tables ≡ names → k < length tables → h ≡ get_or tables k h → named h ≡ name_at names k
named-at names tables k h are l at = ap named at ∙ name-of tables names k h are l

-- the replicas that are numbered are its own
pub here-at : (replicas : ℕ) (tables : List Held) (k r : ℕ) (h : Held) → Each (λ (x : Held). length x.sessions ≡ replicas) tables → k < length tables → h ≡ get_or tables k h → IsNumber r replicas → IsReplica h r
here-at replicas tables k r h each l at n = record { first = n.first; last = subst (λ (m : ℕ). r ≤ m) (sym (sessions-at replicas tables k h each l at)) n.last }

module _ (items tables : List Held) (e : items ≡ tables) (k : ℕ) (old : Held) (at : old ≡ get_or items k old) where
  -- it changes so
  pub changed : (Change : Held → Held → Type 0) (new : Held) → Change old new → ChangesTable tables k Change (set items k new)
  changed Change new c = subst (λ (ts : List Held). ChangesTable ts k Change (set items k new)) e (record { table = old; is = at; after = new; change = c; rest = refl })

  -- this is so of it
  pub has-table : (Fact : Held → Type 0) → Fact old → HasTable tables k Fact
  has-table Fact f = subst (λ (ts : List Held). HasTable ts k Fact) e (record { table = old; is = at; fact = f })

  -- and what is so of the table there is so of it
  pub is-so-there : (Fact : Held → Type 0) → k < length items → HasTable tables k Fact → Fact old
  is-so-there Fact h f = subst Fact (one-place items k f.table old h (subst (λ (ts : List Held). f.table ≡ get_or ts k f.table) (sym e) f.is) at) f.fact

  -- and so is a cause, where there is one
  pub has-cause : (cause : Option StepRefused) (Why : Held → StepRefused → Type 0) → IfSome cause (Why old) → IfSome cause (λ why. HasTable tables k (λ t. Why t why))
  has-cause None Why f = f
  has-cause (Some why) Why f = has-table (λ t. Why t why) f

  -- the note of a replica
  pub noted-in : k < length items → (new : Held) (r : ℕ) (part : Name) (noted : Bool) → IsQuorumNote old r part noted new → NotesIn tables k r part noted (set items k new)
  noted-in h new r part true n = changed (λ t u. IsPendingPart t.quorum.pending part × Notes (table_at t) r (table_at u)) new (n.waits, n.seen)
  noted-in h new r part false n = (has-table (λ t. IsPendingPart t.quorum.pending part → ⊥) n.0, set-own items k old new h at n.1 ∙ e)

  -- the drop of a partition, or of none
  pub drops-in : (new : Held) (p q : Option ℕ) (n : ℕ) (token : Token Entry) → Drops old p token new → token.value ≡ DropRange q n → DropsIn tables k p (Some n) (set items k new)
  drops-in new p q n token d v = changed (λ t u. DropsPartition (table_at t) p n (table_at u)) new (subst (λ m. DropsPartition (table_at old) p m (table_at new)) (ap number_of (sym (ap (λ (x : Token Entry). x.value) d.token_is) ∙ v)) d.seen)
    where
      number_of : Entry → ℕ
      number_of (DropRange r m) = m
      number_of (Get r m digest source need) = 0
      number_of (Merge name sources count) = 0
      number_of (Mutate part name upto count mcount) = 0
      number_of (Mutation id numbers command) = 0

  pub drops-nothing : k < length items → (new : Held) (p : Option ℕ) → (next_number old.next p ≡ 0) × (new ≡ old) → DropsIn tables k p None (set items k new)
  drops-nothing h new p d = (has-table (λ t. next_number t.next p ≡ 0) d.0, set-own items k old new h at d.1 ∙ e)
