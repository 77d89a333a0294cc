-- What a merge of all live names of a partition replies, where no insert is under way and its replica is up to date.
use Rattle.std.proofs.Common.{◌≡◌, ℕ, inl, inr, List, ◌∷◌, length, sym, ap, subst, arith, ◌∙◌}
use Rattle.std.specs.declared.option.Option.{Option}
use Rattle.rmt_names.specs.Names.{Name}
use Rattle.rmt_entries.specs.declared.entry.Entry.{Entry}
use Rattle.rmt_model.specs.Words.{Has, Each}
use Rattle.rmt_model.specs.Lawful.{AreNeighbours}
use Rattle.rmt_events.specs.Views.{Replica, Lock}
use Rattle.rmt_events.specs.Sound.{IsSoundTable}
use Rattle.rmt_events.specs.Clusters.{Cluster}
use Rattle.rmt_events.specs.Whole.{IsWhole}
use Rattle.rmt_events.specs.ClusterChanges.{IsUp}
use Rattle.rmt_events.specs.LogEvents.{AreMergeable, NoMerge}
use Rattle.rmt_events.specs.Steps.{Does, Step}
use Rattle.rmt_events.proofs.WholeTries.{one-replica}
use Rattle.rmt_statement_model.specs.Optimizes.{live_of}
use Rattle.rmt_statement_model.specs.Shows.{IsUpToDate, IsIdle}
use Rattle.rmt_statement_model.proofs.UpLaws.{not-down}
use Rattle.rmt_statement_model.proofs.PartitionLaws.{live-neighbours, live-alike}
use Rattle.rmt_events.specs.declared.event.Event.TheVariants as ev
use Rattle.rmt_events.specs.declared.reply.Reply.{Reply}
use Rattle.rmt_events.specs.declared.reply.Reply.TheVariants as rp
use Rattle.rmt_events.specs.declared.step_refused.StepRefused.{StepRefused}
use Rattle.rmt_events.specs.declared.step_refused.StepRefused.TheVariants as rf

-- the names are merged, or two of them differ or are in a quorum, or a limit would be passed
abbrev pub IsMergeReply : Reply → Type 0
IsMergeReply (rp.Entry i) = Unit {0}
IsMergeReply (rp.Refused (rf.Differ a b)) = Unit {0}
IsMergeReply (rp.Refused (rf.InQuorum a b part)) = Unit {0}
IsMergeReply (rp.Refused (rf.LimitReached limit value)) = Unit {0}
IsMergeReply reply = ⊥

-- names of one partition that are neighbours can be merged
mergeable : (log : List Entry) (p : Option ℕ) (first second : Name) (rest : List Name) → AreNeighbours log (first ∷ second ∷ rest) → Each (λ a. a.partition ≡ p) (first ∷ second ∷ rest) → AreMergeable log (first ∷ second ∷ rest)
mergeable log p first second rest n e = (n, subst (λ (q : Option ℕ). Each (λ a. a.partition ≡ q) (second ∷ rest)) (sym e.0) e.1)

-- all live names of a partition can be
live-mergeable : (s : Cluster) (p : Option ℕ) (first second : Name) (rest : List Name) → IsWhole s → live_of s.table.log p ≡ first ∷ second ∷ rest → AreMergeable s.table.log (first ∷ second ∷ rest)
live-mergeable s p first second rest w e =
    mergeable s.table.log p first second rest
    (subst (λ (xs : List Name). AreNeighbours s.table.log xs) e (live-neighbours s.table.schema s.table.log p (IsSoundTable.lawful w.table)))
    (subst (λ (xs : List Name). Each (λ a. a.partition ≡ p) xs) e (live-alike s.table.log p))

-- a replica of the number has the whole log
whole-copy : (s : Cluster) (k : ℕ) (x : Replica) → IsWhole s → IsUpToDate s k → IsUp s k x → x.log ≡ s.table.log
whole-copy s k x w d y = ap (λ (z : Replica). z.log) (one-replica s x d.replica w y.at.is_in d.at.is_in (y.at.number ∙ sym d.at.number)) ∙ d.whole

-- where no insert is under way and the copy is whole, a merge of names that can be merged isn't refused otherwise
refused-merge : (s : Cluster) (k : ℕ) (first second : Name) (rest : List Name) (why : StepRefused) → IsWhole s → IsIdle s k → IsUpToDate s k → AreMergeable s.table.log (first ∷ second ∷ rest) → NoMerge s k (first ∷ second ∷ rest) why → IsMergeReply (rp.Refused why)
refused-merge s k first second rest rf.Down w i d m c = absurd (not-down s k w i.up c)
refused-merge s k first second rest rf.NotLive w i d m c = absurd (c.2 (subst (λ (l : List Entry). AreMergeable l (first ∷ second ∷ rest)) (sym (whole-copy s k c.0 w d c.1)) m))
refused-merge s k first second rest (rf.LogMoved seen found) w i d m c =
    let e : length c.0.log ≡ length s.table.log = ap (λ (l : List Entry). length l) (whole-copy s k c.0 w d c.1) in
    let f = c.3.0 in let g = c.3.1 in let h = c.3.2 in absurd (omega (arith, e, f, g, h))
refused-merge s k first second rest (rf.Differ left right) w i d m c = tt
refused-merge s k first second rest (rf.InQuorum left right part) w i d m c = tt
refused-merge s k first second rest (rf.InFlight n) w i d m c = let l = c.3.2.0 in absurd (subst (λ (xs : List Lock). Has xs l.lock) i.free l.is_in)
refused-merge s k first second rest (rf.LimitReached limit value) w i d m c = tt
refused-merge s k first second rest why w i d m c = absurd c.3

-- nothing else is answered
pub merge-reply : (s u : Cluster) (k : ℕ) (p : Option ℕ) (first second : Name) (rest : List Name) (reply : Reply) → IsWhole s → IsIdle s k → IsUpToDate s k → live_of s.table.log p ≡ first ∷ second ∷ rest → Step s (ev.Merge k (first ∷ second ∷ rest)) reply u → IsMergeReply reply
merge-reply s u k p first second rest reply w i d e step = go step.does
  where
    go : Does s (ev.Merge k (first ∷ second ∷ rest)) reply step.after → IsMergeReply reply
    go (inl a) = subst (λ (y : Reply). IsMergeReply y) (sym a.appends.answer) tt
    go (inr a) = subst (λ (y : Reply). IsMergeReply y) (sym a.answer) (refused-merge s k first second rest a.why w i d (live-mergeable s p first second rest w e) a.cause)
