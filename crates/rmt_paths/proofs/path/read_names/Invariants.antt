use Rattle.rmt_paths.proofs.TextLemmas.{HasRead}
use Rattle.rmt_paths.proofs.path.read_names.Given as goal

abbrev pub invariant-bytes : goal.invariant-bytes
invariant-bytes l = HasRead l.bytes l.index l.reading.names.items l.reading.name.items
