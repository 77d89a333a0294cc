use Rattle.std.proofs.Common.{◌≡◌, ℕ, Bool, [], ◌∷◌, ◌∙◌, ap, subst, sym}
use Rattle.rmt_names.specs.Names.{Name, block_name}
use Rattle.rmt_events.specs.Views.{Block}
use Rattle.rmt_events.specs.Clusters.{without_kinds}
use Rattle.rmt_events.specs.declared.event.Event.TheVariants as ev
use Rattle.rmt_reply.specs.declared.piece.Piece.TheVariants as pieces
use Rattle.rmt_statement_model.specs.Inserts.{asked_at}
use Rattle.rmt_statement_model.specs.Shows.{Leads, ups}
use Rattle.rmt_acts.specs.Inserting.{Begins, Commits, TellsWaiting, ComesTo}
use Rattle.rmt_acts.specs.declared.begun.Begun.{Begun}
use Rattle.rmt_acts.specs.declared.committed.Committed.{Committed}
use Rattle.rmt_acts.specs.declared.outcome.Outcome.TheVariants as outcomes
use Rattle.rmt_acts.proofs.AttemptActs.{idle-as, up-with}
use Rattle.rmt_acts.proofs.InsertActs.{has-get, accepts, lacks-copies, lacks-room, unbegun, unbegun-free, unbegun-events}
use Rattle.rmt_acts.proofs.EventLists.{at-err, reaches-made, reaches-then, reaches-tried, stops-later}
use Rattle.rmt_acts.proofs.attempt.insert_block.Goals as goal

pub returns-in_default : goal.returns-in_default
returns-in_default c =
    let s = c.args.cluster.now in
    let a = asked_at c.args.replica c.args.need in
    let b = c.in_ok-begun.ensures in
    record {
      inserts = unbegun s c.begin.new.cluster a (without_kinds c.args.block) c.in_ok-begun.begun c.unbegun.result b.begins c.unbegun.ensures;
      idle = idle-as s c.begin.new.cluster c.args.replica b.keeps.ups c.requires.idle.up (unbegun-free s c.begin.new.cluster a (without_kinds c.args.block) c.in_ok-begun.begun c.unbegun.result c.unbegun.ensures b.begins);
      events = unbegun-events s c.begin.new.cluster a c.in_ok-begun.begun c.unbegun.result b.events c.unbegun.ensures;
      err = tt;
      keeps = record { table = b.keeps.table; ups = b.keeps.ups };
    }

pub commit-requires-clause-up : goal.commit-requires-clause-up
commit-requires-clause-up c =
    let a = asked_at c.args.replica c.args.need in
    let b = subst (λ (x : Begun). Begins c.args.cluster.now a (without_kinds c.args.block) x c.begin.new.cluster) c.in-Attempt.is c.in_ok-begun.ensures.begins in
    up-with c.begin.new.cluster c.in-Attempt.attempt a (without_kinds c.args.block) c.in-Attempt.number c.in_ok-begun.ensures.whole b.0 (ap (λ (f : ℕ → Bool). f c.args.replica) c.in_ok-begun.ensures.keeps.ups ∙ c.requires.idle.up)

pub returns-in_err-entry-clause-err : goal.returns-in_err-entry-clause-err
returns-in_err-entry-clause-err c =
    at-err c.from_residual-in_err-entry.result _
    (stops-later c.args.cluster.now c.begin.new.cluster c.commit.new.cluster (reaches-tried c.args.cluster.now c.begin.new.cluster (asked_at c.args.replica c.args.need) c.in_ok-begun.ensures.events) c.in_err-entry.ensures.err)

pub spread-requires-clause-there : goal.spread-requires-clause-there
spread-requires-clause-there c =
    let a = asked_at c.args.replica c.args.need in
    has-get c.args.cluster.now c.begin.new.cluster c.commit.new.cluster a (without_kinds c.args.block) c.in-Attempt.attempt c.in-Attempt.number c.in-Entry.entry
    (subst (λ (x : Begun). Begins c.args.cluster.now a (without_kinds c.args.block) x c.begin.new.cluster) c.in-Attempt.is c.in_ok-begun.ensures.begins)
    (subst (λ (x : Committed). Commits c.begin.new.cluster c.in-Attempt.attempt x c.commit.new.cluster) c.in-Entry.is c.in_ok-entry.ensures.commits)

pub spread-requires-clause-idle : goal.spread-requires-clause-idle
spread-requires-clause-idle c = idle-as c.args.cluster.now c.commit.new.cluster c.args.replica (c.in_ok-entry.ensures.keeps.ups ∙ c.in_ok-begun.ensures.keeps.ups) c.requires.idle.up c.in_ok-entry.ensures.free

pub returns-in_err-spread-in-Entry-clause-err : goal.returns-in_err-spread-in-Entry-clause-err
returns-in_err-spread-in-Entry-clause-err c =
    at-err c.from_residual-in_err-spread-in-Entry.result _
    (stops-later c.args.cluster.now c.commit.new.cluster c.spread.new.cluster
    (reaches-then c.args.cluster.now c.begin.new.cluster c.commit.new.cluster (reaches-tried c.args.cluster.now c.begin.new.cluster (asked_at c.args.replica c.args.need) c.in_ok-begun.ensures.events)
    (reaches-made c.begin.new.cluster c.commit.new.cluster (ev.Stage c.in-Attempt.attempt ∷ ev.Commit c.in-Attempt.attempt ∷ []) c.in_ok-entry.ensures.events)) c.in_err-spread-in-Entry.ensures.err)

pub returns-in-None-clause-inserts : goal.returns-in-None-clause-inserts
returns-in-None-clause-inserts c t h =
    let b : Block = without_kinds c.args.block in
    let a = asked_at c.args.replica c.args.need in
    let named : c.block_name.result ≡ block_name b.partition c.in-Attempt.number = cc (c.block_name.ensures, c.partition-partition.ensures) in
    subst (λ (n : Name). Leads c.spread.new.cluster (ComesTo (ups c.args.cluster.now) t a b (outcomes.Inserted (pieces.Part n)))) (sym named)
    (accepts c.args.cluster.now c.begin.new.cluster c.commit.new.cluster c.spread.new.cluster a b c.in-Attempt.attempt c.in-Attempt.number c.in-Entry.entry (c.in_ok-entry.ensures.keeps.ups ∙ c.in_ok-begun.ensures.keeps.ups)
    (subst (λ (x : Begun). Begins c.args.cluster.now a b x c.begin.new.cluster) c.in-Attempt.is c.in_ok-begun.ensures.begins)
    (subst (λ (x : Committed). Commits c.begin.new.cluster c.in-Attempt.attempt x c.commit.new.cluster) c.in-Entry.is c.in_ok-entry.ensures.commits) c.in_ok-spread-in-Entry.ensures.shows
    (subst (TellsWaiting c.args.need c.spread.new.cluster) c.in-None.is c.in_ok-spread-in-Entry.ensures.tells) t h)

pub returns-in-Some-clause-inserts : goal.returns-in-Some-clause-inserts
returns-in-Some-clause-inserts c t h =
    let b : Block = without_kinds c.args.block in
    let a = asked_at c.args.replica c.args.need in
    lacks-copies c.args.cluster.now c.begin.new.cluster c.commit.new.cluster c.spread.new.cluster a b c.in-Attempt.attempt c.in-Attempt.number c.in-Entry.entry c.in-Some.have (c.in_ok-entry.ensures.keeps.ups ∙ c.in_ok-begun.ensures.keeps.ups)
    (subst (λ (x : Begun). Begins c.args.cluster.now a b x c.begin.new.cluster) c.in-Attempt.is c.in_ok-begun.ensures.begins)
    (subst (λ (x : Committed). Commits c.begin.new.cluster c.in-Attempt.attempt x c.commit.new.cluster) c.in-Entry.is c.in_ok-entry.ensures.commits) c.in_ok-spread-in-Entry.ensures.shows
    (subst (TellsWaiting c.args.need c.spread.new.cluster) c.in-Some.is c.in_ok-spread-in-Entry.ensures.tells) t h

pub returns-in-Full-clause-inserts : goal.returns-in-Full-clause-inserts
returns-in-Full-clause-inserts c =
    let a = asked_at c.args.replica c.args.need in
    lacks-room c.args.cluster.now c.begin.new.cluster c.commit.new.cluster a (without_kinds c.args.block) c.in-Attempt.attempt c.in-Attempt.number c.in-Full.limit c.in-Full.value
    (subst (λ (x : Begun). Begins c.args.cluster.now a (without_kinds c.args.block) x c.begin.new.cluster) c.in-Attempt.is c.in_ok-begun.ensures.begins)
    (subst (λ (x : Committed). Commits c.begin.new.cluster c.in-Attempt.attempt x c.commit.new.cluster) c.in-Full.is c.in_ok-entry.ensures.commits)

pub returns-in-Full-clause-idle : goal.returns-in-Full-clause-idle
returns-in-Full-clause-idle c = idle-as c.args.cluster.now c.commit.new.cluster c.args.replica (c.in_ok-entry.ensures.keeps.ups ∙ c.in_ok-begun.ensures.keeps.ups) c.requires.idle.up c.in_ok-entry.ensures.free
