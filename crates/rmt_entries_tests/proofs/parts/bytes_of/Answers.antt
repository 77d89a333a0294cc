use Rattle.std.proofs.Common.{rules, ◌≡◌, true, arith}
use Rattle.std.specs.List.{All}
use Rattle.rmt_values.specs.Rows.{fits}
use Rattle.rmt_format.proofs.CallerLemmas.{made-has}
use Rattle.rmt_entries_tests.proofs.parts.bytes_of.Goals as goal

pub encode-requires : goal.encode-requires
encode-requires c =
    let fit : All (λ row. fits c.args.schema.now.columns row ≡ true) c.args.rows.now.rows = search rules in
    made-has c.args.schema.now c.args.rows.now.rows c.in_ok-part.part c.in_ok-part.ensures fit (omega arith)
