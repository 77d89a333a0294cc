use Rattle.std.proofs.Common.{◌≡◌, [], map, take}
use Rattle.csv.specs.Records.{fields_of, partial_of}
use Rattle.rmt_reply.specs.Printed.{cell_text}
use Rattle.rmt_reply.proofs.records.fill.Given as goal

abbrev pub invariant-cells : goal.invariant-cells
invariant-cells l = (fields_of l.fields ≡ map cell_text (take l.one-index l.one-items)) × (partial_of l.fields ≡ [])
