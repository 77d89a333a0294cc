-- What acts do to their table at the replica of a number, and what they reply.
-- No public source: the acts have theirs.
use Rattle.std.specs.Prelude.{ℕ, Bool, true, false}
use Rattle.rmt_statement_model.specs.TableStates.{TableState}
use Rattle.rmt_statements.specs.declared.act.Act.{Act}
use Rattle.rmt_statements.specs.declared.act.Act.TheVariants as acts
use Rattle.rmt_statements.specs.declared.mode.Mode.TheVariants as modes
use Rattle.rmt_reply.specs.declared.line.Line.{Line}
use Rattle.rmt_play.specs.InsertStatement.{InsertsInto}
use Rattle.rmt_play.specs.SelectStatement.{Syncs, Reads, ReadsWith}
use Rattle.rmt_play.specs.ExplainStatement.{Explains}
use Rattle.rmt_play.specs.MutationStatement.{AltersBy}
use Rattle.rmt_play.specs.DropStatement.{DropsNamed}
use Rattle.rmt_play.specs.OptimizeStatement.{OptimizesNamed}
use Rattle.rmt_play.specs.ShowParts.{ShowsParts}
use Rattle.rmt_play.specs.CheckTable.{ChecksTable}
use Rattle.rmt_play.specs.WaitStatement.{Waits}
use Rattle.rmt_play.specs.SystemStatements.{SyncsReplica, RestartsReplica, SwitchesFetches}

-- an act gives this reply and this table, where these replicas are up; where workers run, their work may be done besides
abbrev pub Acts : Bool → (ℕ → Bool) → TableState → ℕ → Act → Line → TableState → Type 0
Acts workers up t r (acts.Insert insert) line u = InsertsInto workers up t r insert line u
Acts workers up t r (acts.Select table query modes.Sync) line u = Syncs up t r query line u
Acts workers up t r (acts.Select table query modes.Plain) line u = Reads t r query line u
Acts workers up t r (acts.Select table query (modes.Sequential n)) line u = ReadsWith n t r query line u
Acts workers up t r (acts.Explain table query) line u = Explains t r query line u
Acts workers up t r (acts.Mutate table command) line u = AltersBy t command line u
Acts workers up t r (acts.DropPartition table word) line u = DropsNamed t r word line u
Acts workers up t r (acts.Optimize table word) line u = OptimizesNamed workers up t r word line u
Acts workers up t r (acts.ShowParts table) line u = ShowsParts t r line u
Acts workers up t r (acts.CheckTable table) line u = ChecksTable t r line u
Acts workers up t r (acts.WaitMutation table id) line u = Waits workers up t r id line u
Acts workers up t r (acts.SyncReplica table) line u = SyncsReplica up t r line u
Acts workers up t r (acts.RestartReplica table) line u = RestartsReplica t line u
Acts workers up t r (acts.StopFetches table) line u = SwitchesFetches t r false line u
Acts workers up t r (acts.StartFetches table) line u = SwitchesFetches t r true line u
