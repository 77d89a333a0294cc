use Rattle.std.proofs.Common.{◌≡◌, ◌∙◌, ◌<◌, length, map, ap, sym, subst, true, arith}
use Rattle.std.proofs.lemmas.Grind.{common_steps}
use Rattle.std.proofs.lemmas.List.{length-map}
use Rattle.std.specs.Arc.{arc_value}
use Rattle.rmt_model.specs.Lawful.{is_mutation}
use Rattle.rmt_history.specs.TableLogs.{LoggedTokens, GoOnWith}
use Rattle.rmt_history.proofs.FollowLemmas.{list-at}
use Rattle.rmt_history.proofs.table_log.TableLog.list.Goals as goal

pub returns : goal.returns
returns c =
    let mutation : is_mutation c.args.next.now.value ≡ true = sym (c.is_mutation.ensures ∙ ap is_mutation c.value.ensures) ∙ c.if-not-is_mutation.false in
    let goes : GoOnWith c.self.inside.tokens.items (map arc_value c.args.lists.now) c.args.next.now = subst (λ (l : LoggedTokens). GoOnWith l.tokens (map arc_value c.args.lists.now) c.args.next.now) (sym c.self.view_is) c.requires in
    let within : length c.args.lists.now < length c.self.inside.mutations.items = grind (arith, common_steps) in
    list-at arc_value c.self.inside.mutations.items c.self.inside.tokens.items c.self.inside.is_whole (map arc_value c.args.lists.now) (length c.args.lists.now) c.args.next.now c.index.result.now _
    c.self.invariant.shared goes mutation (sym (length-map c.args.lists.now arc_value)) within c.index.ensures c.in_ok-list.ensures
