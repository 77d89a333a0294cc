use Rattle.std.proofs.Common.{append_assoc}
use Rattle.rmt_entries.proofs.command.put_command.Goals as goal

pub returns-in_ok-put_filter-in-Update : goal.returns-in_ok-put_filter-in-Update
returns-in_ok-put_filter-in-Update c =
    rw (c.in_ok-put_filter-in-Update.ensures, c.in_ok-put_list-in-Update.ensures, c.as_slice.ensures, c.in_ok-push-in-Update.ensures.items, c.in-Update.is) (simp append_assoc)
