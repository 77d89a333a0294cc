use Rattle.std.proofs.Common.{◌∙◌, ap, sym, map, length}
use Rattle.std.specs.Arc.{arc_value}
use Rattle.rmt_history.specs.TableLogs.{LoggedTokens}
use Rattle.rmt_history.proofs.FollowLemmas.{table-more}
use Rattle.rmt_history.proofs.table_log.TableLog.push.Goals as goal

pub invariant_of-self : goal.invariant_of-self
invariant_of-self c =
    table-more c.self.inside.tokens.items c.push_reserved.new.self.items c.args.next (map arc_value c.self.inside.mutations.items) (map arc_value c.share-self-inside.new.lists.items) c.self.inside.is_whole c.share-self-inside.result
    c.self.invariant
    (c.requires.place ∙ ap (λ (l : LoggedTokens). length l.tokens) (sym c.self.view_is))
    c.push_reserved.ensures.items
    c.share-self-inside.ensures.lists
    c.share-self-inside.ensures.whole
