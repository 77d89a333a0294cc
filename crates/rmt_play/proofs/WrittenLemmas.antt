-- What is written of replies that were told.
use Rattle.std.proofs.Common.{◌≡◌, ◌∙◌, ◌++◌, ℕ, Bool, true, List, [], ap, Option, Some, refl, subst}
use Rattle.std.specs.Prelude.{OnOk, OnErr}
use Rattle.std.specs.declared.result.Result.{Result}
use Rattle.std.specs.declared.result.Result.TheVariants.{Ok, Err}
use Rattle.std.specs.Io.KnownBytes.{Appends}
use Rattle.rmt_outside.specs.StreamBytes.{AppendsPrefix}
use Rattle.rmt_outside.specs.declared.write.WriteError.{WriteError}
use Rattle.rmt_outside.specs.declared.write.WriteError.TheVariants.{WriteFault, Memory}
use Rattle.rmt_events.specs.Clusters.{Cluster}
use Rattle.rmt_state.specs.States.{StateView}
use Rattle.rmt_reply.specs.declared.line.Line.{Line}
use Rattle.rmt_reply.specs.Summaries.{summary_text}
use Rattle.rmt_play.specs.Outlets.{AddsInPart, AddsMarks, Told, ToldInPart, gathered_there, printed_there, told_of}
use Rattle.rmt_play.specs.Runs.{lines_of, PlayedAll, PlayedSome, PlayedWhole, Writes, WritesInPart}
use Rattle.rmt_play.specs.Threads.{PlayedAmong}
use Rattle.rmt_play.specs.ScriptEnds.{IsScriptEnd, IsWrittenEnd, WritesSummary}
use Rattle.rmt_play.specs.ThreadedRounds.{EndsAmong, IsWrittenAmong}
use Rattle.rmt_play.specs.declared.printing.Printing.TheVariants.{Full, Summary}
use Rattle.rmt_play.specs.declared.script_end.ScriptEnd.{ScriptEnd}
use Rattle.rmt_play.specs.declared.script_end.ScriptEnd.TheVariants as ends
use Rattle.rmt_play.specs.declared.threaded.threaded_end.ThreadedEnd.{ThreadedEnd}
use Rattle.rmt_play.specs.declared.threaded.threaded_end.ThreadedEnd.TheVariants as among
use Rattle.rmt_play.proofs.OutletLemmas.{appends-bytes, appends-prefix, told-gathered, told-printed}

-- ---- what was told is told otherwise

whole-told : {w : Bool} {script : List ℕ} {refused : ℕ} {clusters : List Cluster} (T U : List (List Line) → Type 0) → ((replies : List (List Line)) → T replies → U replies) → PlayedWhole w script T refused clusters → PlayedWhole w script U refused clusters
whole-told T U f p = record {
  replies = p.replies;
  at = p.at;
  last = p.last;
  played = p.played;
  ended = p.ended;
  told = f p.replies p.told;
  counted = p.counted;
  world = p.world;
  rests = p.rests;
  shown = p.shown;
  replicas = p.replicas;
  agree = p.agree;
}

among-told : {script : List ℕ} {refused : ℕ} {states : List StateView} (T U : List (List Line) → Type 0) → ((replies : List (List Line)) → T replies → U replies) → PlayedAmong script T refused states → PlayedAmong script U refused states
among-told T U f p = record {
  replies = p.replies;
  at = p.at;
  last = p.last;
  played = p.played;
  ended = p.ended;
  told = f p.replies p.told;
  counted = p.counted;
  world = p.world;
  rests = p.rests;
  shown = p.shown;
  replicas = p.replicas;
}

some-told : {w : Bool} {script : List ℕ} (T U : List (List Line) → Type 0) → ((replies : List (List Line)) → T replies → U replies) → PlayedSome w script T → PlayedSome w script U
some-told T U f p = record { replies = p.replies; at = p.at; world = p.world; played = p.played; told = f p.replies p.told }

whole-all : {w : Bool} {script : List ℕ} {refused : ℕ} {clusters : List Cluster} (T U : List (List Line) → Type 0) → ((replies : List (List Line)) → T replies → U replies) → PlayedWhole w script T refused clusters → PlayedAll w script U
whole-all T U f p = record { replies = p.replies; at = p.at; world = p.last; played = p.played; ended = p.ended; told = f p.replies p.told }

among-all : {script : List ℕ} {refused : ℕ} {states : List StateView} (T U : List (List Line) → Type 0) → ((replies : List (List Line)) → T replies → U replies) → PlayedAmong script T refused states → PlayedAll true script U
among-all T U f p = record { replies = p.replies; at = p.at; world = p.last; played = p.played; ended = p.ended; told = f p.replies p.told }

-- ---- each reply is written as it comes

full : (before after : Option (List ℕ)) (replies : List (List Line)) → Told printed_there before after replies → Writes Full before after replies
full before after replies p = appends-bytes before after _ (subst (AddsMarks before after) (told-printed replies) p)

full-in-part : (before after : Option (List ℕ)) (replies : List (List Line)) → ToldInPart printed_there before after replies → WritesInPart Full before after replies
full-in-part before after replies p = appends-prefix before after _ (subst (AddsInPart before after) (told-printed replies) p)

pub full-end : (script : List ℕ) (before after : Option (List ℕ)) (end : ScriptEnd) → IsScriptEnd printed_there script before after end → IsWrittenEnd Full script before after end
full-end script before after (ends.Whole refused clusters) p = whole-told (Told printed_there before after) (Writes Full before after) (full before after) p
full-end script before after ends.WriteFault p = some-told (ToldInPart printed_there before after) (WritesInPart Full before after) (full-in-part before after) p
full-end script before after ends.Memory p = some-told (Told printed_there before after) (Writes Full before after) (full before after) p

pub full-among : (script : List ℕ) (before after : Option (List ℕ)) (end : ThreadedEnd) → EndsAmong printed_there script before after end → IsWrittenAmong Full script before after end
full-among script before after (among.Whole refused states) p = λ clear. among-told (Told printed_there before after) (Writes Full before after) (full before after) (p clear)
full-among script before after among.WriteFault p = λ clear. some-told (ToldInPart printed_there before after) (WritesInPart Full before after) (full-in-part before after) (p clear)
full-among script before after among.Memory p = λ clear. some-told (Told printed_there before after) (Writes Full before after) (full before after) (p clear)

-- ---- the summary of all is

-- what came of writing it
pub summary-written : (all : List Line) (bytes : List ℕ) (before after : Option (List ℕ)) (r : Result (Unit {0}) WriteError) → bytes ≡ summary_text all → OnOk r (Appends before after bytes) → OnErr r (AppendsPrefix before after bytes) → (r ≡ Err Memory → ⊥) → WritesSummary all before after r
summary-written all bytes before after (Ok done) e p q n = subst (Appends before after) e p
summary-written all bytes before after (Err WriteFault) e p q n = subst (AppendsPrefix before after) e q
summary-written all bytes before after (Err Memory) e p q n = absurd (n refl)

-- the lines that were gathered are those of the replies
module _ (first lines shown : List Line) (empty : first ≡ []) (same : shown ≡ lines) (before after : Option (List ℕ)) where
  abbrev Gathered : List (List Line) → Type 0
  Gathered replies = Told gathered_there (Some first) (Some lines) replies

  lines-are : (replies : List (List Line)) → Gathered replies → shown ≡ lines_of replies
  lines-are replies p = same ∙ (p ∙ (ap (λ (ls : List Line). ls ++ told_of gathered_there replies) empty ∙ told-gathered replies))

  -- all of their summary was written
  summed : Appends before after (summary_text shown) → (replies : List (List Line)) → Gathered replies → Writes Summary before after replies
  summed a replies p = subst (λ (ls : List Line). Appends before after (summary_text ls)) (lines-are replies p) a

  -- or a prefix of it
  summed-in-part : AppendsPrefix before after (summary_text shown) → (replies : List (List Line)) → Gathered replies → WritesInPart Summary before after replies
  summed-in-part a replies p = subst (λ (ls : List Line). AppendsPrefix before after (summary_text ls)) (lines-are replies p) a

  pub summary-whole : {w : Bool} {script : List ℕ} {refused : ℕ} {clusters : List Cluster} → Appends before after (summary_text shown) → PlayedWhole w script Gathered refused clusters → PlayedWhole w script (Writes Summary before after) refused clusters
  summary-whole a p = whole-told Gathered (Writes Summary before after) (summed a) p

  pub summary-cut : {w : Bool} {script : List ℕ} {refused : ℕ} {clusters : List Cluster} → AppendsPrefix before after (summary_text shown) → PlayedWhole w script Gathered refused clusters → PlayedAll w script (WritesInPart Summary before after)
  summary-cut a p = whole-all Gathered (WritesInPart Summary before after) (summed-in-part a) p

  pub summary-among : {script : List ℕ} {refused : ℕ} {states : List StateView} → Appends before after (summary_text shown) → PlayedAmong script Gathered refused states → PlayedAmong script (Writes Summary before after) refused states
  summary-among a p = among-told Gathered (Writes Summary before after) (summed a) p

  pub summary-cut-among : {script : List ℕ} {refused : ℕ} {states : List StateView} → AppendsPrefix before after (summary_text shown) → PlayedAmong script Gathered refused states → PlayedAll true script (WritesInPart Summary before after)
  summary-cut-among a p = among-all Gathered (WritesInPart Summary before after) (summed-in-part a) p
