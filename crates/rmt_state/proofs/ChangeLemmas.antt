-- Entries of clients that change a table, as a cluster sees them.
use Rattle.std.proofs.Common.{◌≡◌, ℕ, ◌<◌, inl, inr, List, [], ◌∷◌, length, refl, sym, ap, subst}
use Rattle.std.specs.Prelude.{IfOk, OnOk}
use Rattle.std.specs.declared.option.Option.{Option}
use Rattle.std.specs.declared.result.Result.{Result}
use Rattle.std.specs.declared.result.Result.TheVariants.{Ok, Err}
use Rattle.std.specs.declared.option.Option.TheVariants.{Some, None}
use Rattle.rmt_values.specs.declared.checked_mutation.CheckedMutation.{CheckedMutation}
use Rattle.rmt_values.specs.declared.limit.Limit.{Limit}
use Rattle.rmt_entries.specs.declared.entry.Entry.{Entry}
use Rattle.rmt_model.specs.Lawful.{IsPrefix}
use Rattle.rmt_model.specs.BlockNumbers.{next_number}
use Rattle.rmt_model.specs.EntryLimits.{mutation_limit, drop_limit}
use Rattle.rmt_table_model.specs.Held.{Held}
use Rattle.rmt_row.specs.Token.{Token}
use Rattle.rmt_table.specs.TableTrees.{table_at, Drops, IsDrop}
use Rattle.rmt_events.specs.Views.{Table}
use Rattle.rmt_events.specs.Clusters.{Attempt}
use Rattle.rmt_events.specs.TableCalls.{CreatesMutation, DropsPartition}
use Rattle.rmt_events.specs.ClusterChanges.{Appends}
use Rattle.rmt_events.specs.declared.event.Event.{Event}
use Rattle.rmt_events.specs.declared.reply.Reply.{Reply}
use Rattle.rmt_events.specs.declared.event.Event.TheVariants as ev
use Rattle.rmt_events.specs.declared.reply.Reply.TheVariants as rp
use Rattle.rmt_events.specs.declared.step_refused.StepRefused.TheVariants as rf
use Rattle.rmt_state.specs.States.{StateView, cluster_of, Acts}
use Rattle.rmt_state.proofs.StateLemmas.{KeepsTable, GoesOn, goes-on-same}

pub if-ok : {A E : Type 0} (r : Result A E) (P Q : A → Type 0) → ((x : A) → P x → Q x) → IfOk r P → IfOk r Q
if-ok (Ok x) P Q f p = f x p
if-ok (Err e) P Q f p = p

-- what holds at a value holds of the value
pub on-if : {A E : Type 0} (r : Result A E) (P : Type 0) → OnOk r P → IfOk r (λ a. P)
on-if (Ok a) P p = p
on-if (Err e) P p = p

-- one more entry
one-more : (e : Entry) (log : List Entry) → IsPrefix log (e ∷ log)
one-more e log = record { gained = e ∷ []; is = refl }

pub appended-on : (e : Entry) (old new : Held) → new.schema ≡ old.schema → new.log ≡ e ∷ old.log → KeepsTable old new → GoesOn old new
appended-on e old new s l n = record { schema = s; log = subst (λ (v : List Entry). IsPrefix old.log v) (sym l) (one-more e old.log); table = n }

pub creates-on : (old new : Held) (command : CheckedMutation) → CreatesMutation (table_at old) command (table_at new) → KeepsTable old new → GoesOn old new
creates-on old new command c n = appended-on _ old new (ap (λ (t : Table). t.schema) c.change) (ap (λ (t : Table). t.log) c.change) n

pub done-creates-on : (old new : Held) (command : CheckedMutation) → KeepsTable old new → CreatesMutation (table_at old) command (table_at new) → GoesOn old new
done-creates-on old new command n c = creates-on old new command c n

pub drops-on : (old new : Held) (p : Option ℕ) (m : ℕ) → DropsPartition (table_at old) p m (table_at new) → KeepsTable old new → GoesOn old new
drops-on old new p m c n = appended-on _ old new (ap (λ (t : Table). t.schema) c.change) (ap (λ (t : Table). t.log) c.change) n

pub done-drop-on : (old new : Held) (p : Option ℕ) → KeepsTable old new → (token : Option (Token Entry)) → IsDrop old p token new → GoesOn old new
done-drop-on old new p n None d = goes-on-same old new d.1
done-drop-on old new p n (Some token) d = drops-on old new p (next_number old.next p) (Drops.seen d) n

-- the table alone changed, and the reply is its entry's place
pub appends : (s : StateView) (new : Held) (D : Table → Table → Type 0) (place made : ℕ) (attempts : List Attempt) (events : List (Event × Reply)) → place ≡ length s.tree.log → D (table_at s.tree) (table_at new)
    → Appends (cluster_of s made attempts events) D (rp.Entry place) (cluster_of (record s { tree = new }) made attempts events)
appends s new D place made attempts events e d = record { at = record { new = table_at new; does = d; change = refl }; answer = ap rp.Entry e }

pub mutation-acts : (s : StateView) (new : Held) (command : CheckedMutation) (place : ℕ) → place ≡ length s.tree.log → CreatesMutation (table_at s.tree) command (table_at new) → Acts s (ev.CreateMutation command) (rp.Entry place) (record s { tree = new })
mutation-acts s new command place e c made attempts events = inl (appends s new (λ u v. CreatesMutation u command v) place made attempts events e c)

pub no-mutation-acts : (s : StateView) (new : Held) (command : CheckedMutation) (limit : Limit) (value : ℕ) → new ≡ s.tree → mutation_limit s.tree.next s.tree.log ≡ Some (limit, value) → Acts s (ev.CreateMutation command) (rp.Refused (rf.LimitReached limit value)) (record s { tree = new })
no-mutation-acts s new command limit value e l made attempts events = inr (record { why = rf.LimitReached limit value; cause = l; answer = refl; unchanged = ap (λ (h : Held). cluster_of (record s { tree = h }) made attempts events) e })

pub drop-acts : (s : StateView) (new : Held) (p : Option ℕ) (m place : ℕ) → place ≡ length s.tree.log → DropsPartition (table_at s.tree) p m (table_at new) → Acts s (ev.DropPartition p) (rp.Entry place) (record s { tree = new })
drop-acts s new p m place e c made attempts events = inl (m, appends s new (λ u v. DropsPartition u p m v) place made attempts events e c)

pub drops-nothing-acts : (s : StateView) (new : Held) (p : Option ℕ) → next_number s.tree.next p ≡ 0 → new ≡ s.tree → Acts s (ev.DropPartition p) rp.Done (record s { tree = new })
drops-nothing-acts s new p n e made attempts events = inr (inl (record { absent = n; answer = refl; unchanged = ap (λ (h : Held). cluster_of (record s { tree = h }) made attempts events) e }))

pub no-drop-acts : (s : StateView) (new : Held) (p : Option ℕ) (limit : Limit) (value : ℕ) → new ≡ s.tree → 0 < next_number s.tree.next p → drop_limit s.tree.next s.tree.log p ≡ Some (limit, value) → Acts s (ev.DropPartition p) (rp.Refused (rf.LimitReached limit value)) (record s { tree = new })
no-drop-acts s new p limit value e n l made attempts events = inr (inr (record { why = rf.LimitReached limit value; cause = (n, l); answer = refl; unchanged = ap (λ (h : Held). cluster_of (record s { tree = h }) made attempts events) e }))
