use Rattle.std.proofs.Common.{arith}
use Rattle.rmt_bytes.proofs.ByteLemmas.{are_bytes}
use Rattle.rmt_entries.proofs.EntryCodes.{whole_taken, decoded_as, encodes_none}
use Rattle.rmt_entries.proofs.decode.entry_of.Goals as goal

pub returns-in-Ok-clause-ok : goal.returns-in-Ok-clause-ok
returns-in-Ok-clause-ok c =
    whole_taken c.args.bytes.now c.in-Ok.entry (are_bytes c.args.bytes.now (λ i. omega (arith, c.type_inv.bytes i))) c.in-Ok.ensures

pub returns-in-Ok-clause-found : goal.returns-in-Ok-clause-found
returns-in-Ok-clause-found c = λ entry fits is. decoded_as c.args.bytes.now c.in-Ok.entry entry c.in-Ok.ensures fits is

pub returns-in-Err-Malformed-clause-found : goal.returns-in-Err-Malformed-clause-found
returns-in-Err-Malformed-clause-found c = encodes_none c.args.bytes.now c.in-Err-Malformed.field-0 c.in-Err-Malformed.field-0-is c.in-Err-Malformed.ensures

pub returns-in-Err-Malformed-clause-not_an_entry : goal.returns-in-Err-Malformed-clause-not_an_entry
returns-in-Err-Malformed-clause-not_an_entry c = λ e. encodes_none c.args.bytes.now c.in-Err-Malformed.field-0 c.in-Err-Malformed.field-0-is c.in-Err-Malformed.ensures
