-- What entries record of the blocks and the mutations that went into what they make.
-- No public source: that entries record counts is this program's own.
use Rattle.std.specs.Prelude.{ℕ}
use Rattle.rmt_entries.specs.declared.entry.Entry.{Entry}
use Rattle.rmt_entries.specs.declared.entry.Entry.TheVariants.{Get, Merge, Mutate, Mutation, DropRange}

-- the count of blocks that the entry has for the part that it makes; 0 where it makes none
abbrev pub recorded : Entry → ℕ
recorded (Get p n digest source need) = 1
recorded (Merge new sources count) = count
recorded (Mutate old new upto count mcount) = count
recorded (Mutation id numbers command) = 0
recorded (DropRange p n) = 0
