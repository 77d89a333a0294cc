-- What commands do, by what executes them.
use Rattle.std.proofs.Common.{◌≡◌, ◌∙◌, ℕ, ◌<◌, ◌≤◌, List, [], ◌∷◌, cond, refl, ap, sym, subst, Bool, true, false, nat_lt, arith, inl, inr}
use Rattle.std.proofs.lemmas.Bool.Decides.{nat_tests}
use Rattle.std.specs.Prelude.{IfOk, IfErr, MatchOption}
use Rattle.std.specs.declared.result.Result.{Result}
use Rattle.std.specs.declared.result.Result.TheVariants.{Ok, Err}
use Rattle.std.specs.declared.option.Option.{Option}
use Rattle.std.specs.declared.option.Option.TheVariants.{Some, None}
use Rattle.rmt_values.specs.Rows.{Shape}
use Rattle.rmt_values.specs.declared.mutation.Mutation.{Mutation}
use Rattle.rmt_values.specs.declared.checked_mutation.CheckedMutation.{CheckedMutation}
use Rattle.rmt_values.specs.declared.partition_rule.PartitionRule.{PartitionRule}
use Rattle.rmt_expr.specs.Mutations.{IsCheckedMutation, mutation_refusal}
use Rattle.rmt_names.specs.Names.{Name}
use Rattle.rmt_model.specs.Fair.{AreFair}
use Rattle.rmt_model.specs.Lawful.{mutation_count}
use Rattle.rmt_partset.specs.Snapshots.{NamedData, names_in}
use Rattle.rmt_statements.specs.declared.act.Act.{Act}
use Rattle.rmt_statements.specs.declared.act.Act.TheVariants as acts
use Rattle.rmt_statements.specs.declared.partition_word.PartitionWord.{PartitionWord}
use Rattle.rmt_statements.specs.Partitions.{partition_named}
use Rattle.rmt_statement_model.specs.TableStates.{TableState, shown_at, with_switch}
use Rattle.rmt_statement_model.specs.Rests.{Runs}
use Rattle.rmt_statement_model.specs.Optimizes.{OptimizesTable}
use Rattle.rmt_statement_model.specs.ActOutcomes.{DropsSome}
use Rattle.rmt_reply.specs.declared.line.Line.{Line}
use Rattle.rmt_reply.specs.declared.line.Line.TheVariants as lines
use Rattle.rmt_reply.specs.declared.refusal.Refusal.{Refusal}
use Rattle.rmt_reply.specs.declared.refusal.Refusal.TheVariants.{UnknownMutation}
use Rattle.rmt_play.specs.ActRefusals.{refused_command, refused_partition, refused_asked, refused_id}
use Rattle.rmt_play.specs.MutationStatement.{Alters}
use Rattle.rmt_play.specs.DropStatement.{DropsPartition}
use Rattle.rmt_play.specs.OptimizeStatement.{IsAsked}
use Rattle.rmt_cluster.specs.Runs.{RunsAll}
use Rattle.rmt_events.specs.declared.event.Event.TheVariants as ev
use Rattle.rmt_acts.specs.StatementEvents.{Makes, SyncEvents, DropEvents, OptimizeEvents, WaitEvents}
use Rattle.rmt_play.specs.Acts.{Acts}
use Rattle.rmt_play.specs.ActEvents.{ActEvents}
use Rattle.rmt_acting.specs.Acting.{Sight, Brings}
use Rattle.rmt_statement_model.specs.ActOutcomes.{SyncsOr, WaitsOr, ReadsParts}
use Rattle.rmt_play.specs.RunStatement.{RunsTurns}
use Rattle.rmt_play.specs.ActSteps.{DoesAct, Declines, refusal_there, ExecutesAct, ExecutesIn, RunsTable, switch_act}
use Rattle.rmt_play.proofs.SightLemmas.{IsKnown, brings-on, brings-none}
use Rattle.rmt_acts.specs.Checking.{AreDigests}

-- an act that isn't refused
pub acts-in : {w : Bool} (s u : Sight w) (r : ℕ) (act : Act) (line : Line) (Change : TableState → TableState → Type 0) → ((t v : TableState) → IsKnown s t → u.shows v → Change t v → (refusal_there t act ≡ None) × Acts w s.ups t r act line v)
    → (w ≡ false → ActEvents s.cluster r act line u.cluster) → Brings s Change u → ExecutesIn s r act line u
acts-in {w} s u r act line Change f m k =
    brings-on s u Change (ExecutesAct s r act line u)
    (λ t v known shown c.
    let a = f t v known shown c in
    subst (λ (o : Option Refusal). MatchOption o (DoesAct s t r act line u v) (Declines s t line u v)) (sym a.0) (a.1, m)) k

-- an act that is refused
pub act-refused : {w : Bool} (s : Sight w) (r : ℕ) (act : Act) (why : Refusal) → ((t : TableState) → IsKnown s t → refusal_there t act ≡ Some why) → ExecutesIn s r act (lines.Refused why) s
act-refused {w} s r act why f =
    brings-none s (ExecutesAct s r act (lines.Refused why) s)
    (λ t known. subst (λ (o : Option Refusal). MatchOption o (DoesAct s t r act (lines.Refused why) s t) (Declines s t (lines.Refused why) s t)) (sym (f t known)) (refl, refl, λ _. refl))

-- ---- what a call found

-- what holds of what was found
pub found-holds : {A E : Type 0} (found : Result A E) (a : A) (P : A → Type 0) → found ≡ Ok a → IfOk found P → P a
found-holds {A} {E} found a P e k = subst (λ (r : Result A E). IfOk r P) e k

-- what holds of why nothing was
pub found-fails : {A E : Type 0} (found : Result A E) (e : E) (P : E → Type 0) → found ≡ Err e → IfErr found P → P e
found-fails {A} {E} found e P q k = subst (λ (r : Result A E). IfErr r P) q k

-- what follows for the reply
pub on-line : {E : Type 0} (result : Result Line E) (P Q : Line → Type 0) → ((line : Line) → P line → Q line) → IfOk result P → IfOk result Q
on-line (Ok line) P Q f k = f line k
on-line (Err e) P Q f k = tt

-- ---- ALTER .. UPDATE and DELETE

-- a command that isn't refused makes its mutation, or would pass a limit
pub alters-in : {w : Bool} (s u : Sight w) (r : ℕ) (table : List ℕ) (written : Mutation) (command : CheckedMutation) (line : Line) → mutation_refusal s.shape written ≡ None → IsCheckedMutation s.shape written command
    → Brings s (λ t v. Alters t command line v) u → (w ≡ false → Makes s.cluster (ev.CreateMutation command ∷ []) u.cluster) → ExecutesIn s r (acts.Mutate table written) line u
alters-in {w} s u r table written command line q is k m =
    acts-in s u r (acts.Mutate table written) line (λ t v. Alters t command line v)
    (λ t v known shown c. (
      ap (λ (x : Shape). refused_command (mutation_refusal x written)) known.schema ∙ ap refused_command q,
      record { command = command; is = subst (λ (x : Shape). IsCheckedMutation x written command) (sym known.schema) is; alters = c },
    ))
    (λ n. record { command = command; is = subst (λ (x : Shape). IsCheckedMutation x written command) (sym (s.cluster-shape n)) is; makes = m n }) k

-- one that is
pub alter-refused : {w : Bool} (s : Sight w) (r : ℕ) (table : List ℕ) (written : Mutation) (why : Refusal) → refused_command (mutation_refusal s.shape written) ≡ Some why → ExecutesIn s r (acts.Mutate table written) (lines.Refused why) s
alter-refused s r table written why q = act-refused s r (acts.Mutate table written) why (λ t known. ap (λ (c : Shape). refused_command (mutation_refusal c written)) known.schema ∙ q)

-- ---- ALTER .. DROP PARTITION

-- the reply names the partition that was dropped
pub dropped : {w : Bool} (s u : Sight w) (r : ℕ) (p : Option ℕ) (below : ℕ) → Brings s (λ t v. DropsSome t r p below v) u → Brings s (λ t v. DropsPartition t r p (lines.Dropped p below) v) u
dropped s u r p below k = brings-on s u (λ t v. DropsSome t r p below v) (λ t v. DropsPartition t r p (lines.Dropped p below) v) (λ t v known shown c. (refl, c)) k

-- a word that names a partition drops it, or would pass a limit
pub drops-in : {w : Bool} (s u : Sight w) (r : ℕ) (table : List ℕ) (word : PartitionWord) (p : Option ℕ) (line : Line) → partition_named s.shape.partition word ≡ Some p
    → Brings s (λ t v. DropsPartition t r p line v) u → (w ≡ false → DropEvents s.cluster r p u.cluster) → ExecutesIn s r (acts.DropPartition table word) line u
drops-in {w} s u r table word p line q k m =
    acts-in s u r (acts.DropPartition table word) line (λ t v. DropsPartition t r p line v)
    (λ t v known shown c.
    let n : partition_named t.schema.partition word ≡ Some p = ap (λ (x : Shape). partition_named x.partition word) known.schema ∙ q in
    (ap refused_partition n, record { partition = p; named = n; drops = c }))
    (λ n. record { partition = p; named = ap (λ (x : Shape). partition_named x.partition word) (s.cluster-shape n) ∙ q; makes = m n }) k

-- one that names none is refused
pub drop-refused : {w : Bool} (s : Sight w) (r : ℕ) (table : List ℕ) (word : PartitionWord) (why : Refusal) → refused_partition (partition_named s.shape.partition word) ≡ Some why → ExecutesIn s r (acts.DropPartition table word) (lines.Refused why) s
drop-refused s r table word why q = act-refused s r (acts.DropPartition table word) why (λ t known. ap (λ (c : Shape). refused_partition (partition_named c.partition word)) known.schema ∙ q)

-- ---- OPTIMIZE

-- a partition that is named isn't refused
asked-known : (rule : Option PartitionRule) (word : Option PartitionWord) (asked : Option (Option ℕ)) → IsAsked rule word asked → refused_asked rule word ≡ None
asked-known rule None None q = refl
asked-known rule None (Some p) q = absurd q
asked-known rule (Some word) None q = absurd q
asked-known rule (Some word) (Some p) q = ap refused_partition q

-- the partitions that are asked for are optimized
pub optimizes-in : {w : Bool} (s u : Sight w) (r : ℕ) (table : List ℕ) (word : Option PartitionWord) (asked : Option (Option ℕ)) (names : List Name) (refused : Option Refusal) → IsAsked s.shape.partition word asked
    → Brings s (λ t v. OptimizesTable w s.ups t r asked names refused v) u → (w ≡ false → OptimizeEvents s.cluster r names refused u.cluster) → ExecutesIn s r (acts.Optimize table word) (lines.Optimized names refused) u
optimizes-in {w} s u r table word asked names refused q k m =
    acts-in s u r (acts.Optimize table word) (lines.Optimized names refused) (λ t v. OptimizesTable w s.ups t r asked names refused v)
    (λ t v known shown c.
    let n : IsAsked t.schema.partition word asked = subst (λ (x : Shape). IsAsked x.partition word asked) (sym known.schema) q in
    (asked-known t.schema.partition word asked n, record { asked = asked; named = n; names = names; refused = refused; optimizes = c; reply = refl })) m k

-- a word that names no partition is refused
pub optimize-refused : {w : Bool} (s : Sight w) (r : ℕ) (table : List ℕ) (word : Option PartitionWord) (why : Refusal) → refused_asked s.shape.partition word ≡ Some why → ExecutesIn s r (acts.Optimize table word) (lines.Refused why) s
optimize-refused s r table word why q = act-refused s r (acts.Optimize table word) why (λ t known. ap (λ (c : Shape). refused_asked c.partition word) known.schema ∙ q)

-- ---- SHOW PARTS

-- the names of parts that are read
pub shows-in : {w : Bool} (s u : Sight w) (r : ℕ) (table : List ℕ) (parts : List NamedData) (names : List Name) → names ≡ names_in parts → Brings s (ReadsParts r parts) u → (w ≡ false → u.cluster ≡ s.cluster) → ExecutesIn s r (acts.ShowParts table) (lines.Parts names) u
shows-in s u r table parts names e k m =
    acts-in s u r (acts.ShowParts table) (lines.Parts names) (ReadsParts r parts)
    (λ t v known shown c. (
      refl,
      record {
        names = names;
        fair = subst (AreFair t.log (t.known r)) (sym e) c.reading.fair;
        reply = refl;
        change = subst (λ (ns : List Name). v ≡ shown_at r ns t) (sym e) c.change;
      },
    )) m k

-- ---- CHECK TABLE

-- the digests of parts that are read
pub checks-in : {w : Bool} (s u : Sight w) (r : ℕ) (table : List ℕ) (all : List (Name × List ℕ)) → Brings s (λ t v. AreDigests t r all v) u → (w ≡ false → u.cluster ≡ s.cluster) → ExecutesIn s r (acts.CheckTable table) (lines.Digests all) u
checks-in s u r table all k m =
    acts-in s u r (acts.CheckTable table) (lines.Digests all) (λ t v. AreDigests t r all v)
    (λ t v known shown d. (refl, record { names = d.names; fair = d.fair; reply = ap (λ (x : List (Name × List ℕ)). lines.Digests x) d.are; change = d.change })) m k

-- ---- WAIT MUTATION

-- a mutation that was made isn't refused
id-known : (t : TableState) (id made : ℕ) → mutation_count t.log ≡ made → id < made → refused_id (mutation_count t.log) id ≡ None
id-known t id made e l =
    let b : nat_lt id made ≡ true = grind (arith, nat_tests) in
    ap (λ n. refused_id n id) e ∙ ap (λ (x : Bool). cond x None (Some (UnknownMutation id))) b

-- no part waits for it any more
pub waits-in : {w : Bool} (s u : Sight w) (r id : ℕ) (table : List ℕ) → id < s.mutations → Brings s (WaitsOr w s.ups r id None) u → (w ≡ false → WaitEvents s.cluster r None u.cluster) → ExecutesIn s r (acts.WaitMutation table id) (lines.Done id) u
waits-in {w} s u r id table n k m =
    acts-in s u r (acts.WaitMutation table id) (lines.Done id) (WaitsOr w s.ups r id None) (λ t v known shown c. (id-known t id s.mutations known.mutations n, (refl, c))) m k

-- the replica lacks a part, or one more entry would pass a limit
pub wait-lacks : {w : Bool} (s u : Sight w) (r id : ℕ) (table : List ℕ) (why : Refusal) → id < s.mutations → Brings s (WaitsOr w s.ups r id (Some why)) u → (w ≡ false → WaitEvents s.cluster r (Some why) u.cluster) → ExecutesIn s r (acts.WaitMutation table id) (lines.Refused why) u
wait-lacks {w} s u r id table why n k m =
    acts-in s u r (acts.WaitMutation table id) (lines.Refused why) (WaitsOr w s.ups r id (Some why)) (λ t v known shown c. (id-known t id s.mutations known.mutations n, c)) m k

-- one that wasn't made is refused
pub wait-refused : {w : Bool} (s : Sight w) (r id : ℕ) (table : List ℕ) → s.mutations ≤ id → ExecutesIn s r (acts.WaitMutation table id) (lines.Refused (UnknownMutation id)) s
wait-refused s r id table l =
    let b : nat_lt id s.mutations ≡ false = grind (arith, nat_tests) in
    act-refused s r (acts.WaitMutation table id) (UnknownMutation id)
    (λ t known. ap (λ n. refused_id n id) known.mutations ∙ ap (λ (x : Bool). cond x None (Some (UnknownMutation id))) b)

-- ---- SYSTEM

pub drains-in : {w : Bool} (s u : Sight w) (r : ℕ) (table : List ℕ) → Brings s (SyncsOr s.ups r None) u → (w ≡ false → SyncEvents s.cluster r None u.cluster) → ExecutesIn s r (acts.SyncReplica table) lines.Okay u
drains-in s u r table k m = acts-in s u r (acts.SyncReplica table) lines.Okay (SyncsOr s.ups r None) (λ t v known shown c. (refl, inl (record { reply = refl; change = c }))) m k

-- the replica lacks a part
pub drain-lacks : {w : Bool} (s u : Sight w) (r : ℕ) (table : List ℕ) (why : Refusal) → Brings s (SyncsOr s.ups r (Some why)) u → (w ≡ false → SyncEvents s.cluster r (Some why) u.cluster) → ExecutesIn s r (acts.SyncReplica table) (lines.Refused why) u
drain-lacks s u r table why k m =
    acts-in s u r (acts.SyncReplica table) (lines.Refused why) (SyncsOr s.ups r (Some why)) (λ t v known shown c. (refl, inr (record { refusal = why; lacks = c; reply = refl }))) m k

pub restarts-in : {w : Bool} (s u : Sight w) (r : ℕ) (table : List ℕ) → Brings s (λ t v. v ≡ t) u → (w ≡ false → Makes s.cluster (ev.Kill r ∷ ev.Restart r ∷ []) u.cluster) → ExecutesIn s r (acts.RestartReplica table) lines.Okay u
restarts-in s u r table k m = acts-in s u r (acts.RestartReplica table) lines.Okay (λ t v. v ≡ t) (λ t v known shown c. (refl, record { reply = refl; unchanged = c })) m k

pub switches-in : {w : Bool} (s u : Sight w) (r : ℕ) (allowed : Bool) (table : List ℕ) → Brings s (λ t v. v ≡ with_switch t r allowed) u → (w ≡ false → Makes s.cluster (ev.Fetches r allowed ∷ []) u.cluster) → ExecutesIn s r (switch_act allowed table) lines.Okay u
switches-in s u r false table k m = acts-in s u r (acts.StopFetches table) lines.Okay (λ t v. v ≡ with_switch t r false) (λ t v known shown c. (refl, record { reply = refl; change = c })) m k
switches-in s u r true table k m = acts-in s u r (acts.StartFetches table) lines.Okay (λ t v. v ≡ with_switch t r true) (λ t v known shown c. (refl, record { reply = refl; change = c })) m k

-- ---- RUN

pub works-in : {w : Bool} (s u : Sight w) (turns seed : ℕ) → Brings s (Runs w s.ups turns) u → (w ≡ false → RunsAll s.cluster seed turns u.cluster) → RunsTable turns seed (lines.Ran turns) s u
works-in {w} s u turns seed k m = record {
  turns_made = brings-on s u (Runs w s.ups turns) (λ t v. RunsTurns w s.ups t turns (lines.Ran turns) v) (λ t v known shown c. record { runs = c; reply = refl }) k;
  events = m;
}
