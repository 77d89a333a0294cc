use Rattle.std.proofs.Common.{◌≡◌, ◌++◌, ◌∷◌, ◌+◌, ◌<◌, [], arith, take, length}
use Rattle.std.specs.Prelude.{slice_index}
use Rattle.std.proofs.lemmas.Grind.{common_steps}
use Rattle.rmt_paths.proofs.TextLemmas.{HasRead-start, HasRead-byte, IsPath-read, no_bytes, first_slash, bad_read, bad_last}
use Rattle.rmt_paths.proofs.path.read_names.Goals as goal

pub returns-then-is_empty-clause-bad : goal.returns-then-is_empty-clause-bad
returns-then-is_empty-clause-bad c = λ _ p is e. no_bytes p c.args.bytes.now is e (grind (arith, c.is_empty.ensures, c.if-is_empty.true))

pub returns-then-bytes-ne47-clause-bad : goal.returns-then-bytes-ne47-clause-bad
returns-then-bytes-ne47-clause-bad c = λ _ p is e. c.if-bytes-ne47.true (first_slash p c.args.bytes.now is e)

pub bytes-init : goal.bytes-init
bytes-init c = HasRead-start c.args.bytes.now c.new.result.items c.new-2.result.items c.if-bytes-ne47.false c.new.ensures.items c.new-2.ensures.items

pub bytes-preserved : goal.bytes-preserved
bytes-preserved c =
    let more : take (c.bytes.index + 1) c.args.bytes.now ≡ take c.bytes.index c.args.bytes.now ++ slice_index c.args.bytes.now c.bytes.index ∷ [] = grind (arith, common_steps) in
    HasRead-byte (slice_index c.args.bytes.now c.bytes.index) c.args.bytes.now c.bytes.index c.bytes.reading.names.items c.bytes.reading.name.items c.in-Ok.more.names.items c.in-Ok.more.name.items c.in-Ok.ensures.ok more c.bytes.invariant

pub returns-in-Err-clause-bad : goal.returns-in-Err-clause-bad
returns-in-Err-clause-bad c = λ bad p is e.
    let h = c.in-Err.ensures.bad bad in
    let below : c.bytes.index < length c.args.bytes.now = omega arith in
    bad_read c.args.bytes.now c.bytes.index c.bytes.reading.names.items c.bytes.reading.name.items p c.bytes.invariant h.0 h.1 below is e

pub returns-in-Err-end_name-clause-bad : goal.returns-in-Err-end_name-clause-bad
returns-in-Err-end_name-clause-bad c = λ bad p is e.
    let h = c.in-Err-end_name.ensures.bad bad in
    let all : take c.bytes.index c.args.bytes.now ≡ c.args.bytes.now = grind (arith, common_steps) in
    bad_last c.args.bytes.now c.bytes.index c.bytes.reading.names.items c.bytes.reading.name.items p c.bytes.invariant h all is e

pub returns-in-Ok-end_name-clause-ok : goal.returns-in-Ok-end_name-clause-ok
returns-in-Ok-end_name-clause-ok c =
    let all : take c.bytes.index c.args.bytes.now ≡ c.args.bytes.now = grind (arith, common_steps) in
    IsPath-read c.args.bytes.now c.bytes.reading.names.items c.bytes.reading.name.items _ _ c.bytes.index c.in-Ok-end_name.ensures.ok c.bytes.invariant all
