use Rattle.std.proofs.Common.{rules, sym, ◌∙◌}
use Rattle.rmt_values.proofs.NameSets.{walked_again, walked_new}
use Rattle.rmt_values.proofs.name_sets.first_double.Goals as goal

pub names-preserved-then-not-branch : goal.names-preserved-then-not-branch
names-preserved-then-not-branch c =
    walked_again c.args.names.now c.names.rest.now c.names.later c.insert.new.self c.names.double c.as_bytes.result c.last-item.result c.names.invariant
    c.in-len1-up.len_at_least c.last-item.is c.as_bytes.ensures c.in_ok-insert.ensures.updates (search rules)

pub names-preserved : goal.names-preserved
names-preserved c =
    walked_new c.args.names.now c.names.rest.now c.names.later c.insert.new.self c.names.double c.as_bytes.result c.last-item.result c.names.invariant
    c.in-len1-up.len_at_least c.last-item.is c.as_bytes.ensures c.in_ok-insert.ensures.updates (sym c.if-not-branch.false ∙ c.in_ok-insert.ensures.added)
