-- A workload: a script that a generator draws from a seed. It is this program's own.
use Rattle.std.specs.Prelude.{ℕ, zero, suc, ◌+◌, ◌*◌, ◌-◌, ◌%◌, ◌==◌, ◌&&◌, nat_lt, List, [], ◌∷◌, ◌++◌, codes, if◌then◌else◌}
use Rattle.std.specs.Fmt.{decimal}
use Rattle.rmt_events.specs.Draws.{stepped, drawn}

-- ---- draws

-- the generator's state after so many draws
abbrev pub state_after : ℕ → ℕ → ℕ
state_after zero x = x
state_after (suc k) x = state_after k (stepped x)

-- the draw from a state on that has so many before it
abbrev pub draw_at : ℕ → ℕ → ℕ
draw_at k x = drawn (state_after (suc k) x)

-- a text that was drawn, and the generator's state after it
pub record Drawn : Type 0 where
  pub text : List ℕ
  pub state : ℕ

-- ---- an INSERT

-- a row of a partition
unfoldable pub row_text : ℕ → ℕ → List ℕ
row_text p x = codes "(" ++ decimal (1000 * p + draw_at 0 x % 1000) ++ codes "," ++ decimal (draw_at 1 x) ++ codes ")"

-- so many further ones
abbrev pub more_rows : ℕ → ℕ → ℕ → Drawn
more_rows zero p x = record { text = []; state = x }
more_rows (suc m) p x =
    let rest = more_rows m p (state_after 2 x) in
    record { text = (codes "," ++ row_text p x) ++ rest.text; state = rest.state }

-- one to eight rows of one of four partitions
abbrev pub drawn_insert : ℕ → Drawn
drawn_insert x =
    let p = draw_at 0 x % 4 in
    let rest = more_rows (draw_at 1 x % 8) p (state_after 4 x) in
    record { text = (codes "INSERT INTO s VALUES " ++ row_text p (state_after 2 x)) ++ rest.text; state = rest.state }

-- ---- a turn

-- what a turn goes on from: the generator's state, the last INSERT, which is empty where there was none, and how many ALTERs with
-- UPDATE or DELETE there were
pub record Storm : Type 0 where
  pub state : ℕ
  pub last : List ℕ
  pub alters : ℕ

-- the lines of a turn, and what the next one goes on from
pub record Turn : Type 0 where
  pub lines : List ℕ
  pub next : Storm

-- a statement, on a line of its own
unfoldable pub statement_line : List ℕ → List ℕ
statement_line statement = statement ++ codes ";\n"

-- one that is sent to a replica
unfoldable pub replica_line : ℕ → List ℕ → List ℕ
replica_line r statement = statement_line (codes "@r" ++ decimal r ++ codes " " ++ statement)

-- an INSERT
abbrev pub insert_turn : ℕ → Storm → Turn
insert_turn r s = record { lines = replica_line r (drawn_insert s.state).text; next = record { state = (drawn_insert s.state).state; last = (drawn_insert s.state).text; alters = s.alters } }

-- a statement that changes nothing of these, after so many draws
abbrev pub plain_turn : List ℕ → ℕ → Storm → Turn
plain_turn lines k s = record { lines = lines; next = record s { state = state_after k s.state } }

-- an ALTER, after so many draws
abbrev pub alter_turn : List ℕ → ℕ → Storm → Turn
alter_turn lines k s = record { lines = lines; next = record s { state = state_after k s.state; alters = s.alters + 1 } }

-- one with UPDATE, and one with DELETE
unfoldable pub update_turn : ℕ → Storm → Turn
update_turn r s = alter_turn (replica_line r ((codes "ALTER TABLE s UPDATE v = v + " ++ decimal (draw_at 0 s.state % 100)) ++ (codes " WHERE k < " ++ decimal (draw_at 1 s.state % 4000)))) 2 s

unfoldable pub delete_turn : ℕ → Storm → Turn
delete_turn r s = alter_turn (replica_line r (codes "ALTER TABLE s DELETE WHERE v < " ++ decimal (draw_at 0 s.state % 1000))) 1 s

-- one of them, or a count, which it always is once there were 1,000 ALTERs
abbrev pub alter_or_count_turn : ℕ → Storm → Turn
alter_or_count_turn r s =
    let b = draw_at 0 s.state % 8 in
    if nat_lt s.alters 1000 && b == 0 then update_turn r (record s { state = state_after 1 s.state }) else (
    if nat_lt s.alters 1000 && b == 1 then delete_turn r (record s { state = state_after 1 s.state })
    else plain_turn (replica_line r (codes "SELECT count() FROM s")) 1 s)

-- the last INSERT again, or SHOW PARTS where there was none
abbrev pub last_or_parts : List ℕ → List ℕ
last_or_parts [] = codes "SHOW PARTS FROM s"
last_or_parts last = last

-- the wait for the last ALTER, where there was one, and an OPTIMIZE
abbrev pub optimize_lines : ℕ → ℕ → List ℕ
optimize_lines r alters =
    if alters == 0 then replica_line r (codes "OPTIMIZE TABLE s FINAL")
    else (replica_line r (codes "WAIT MUTATION s " ++ decimal (alters - 1)) ++ replica_line r (codes "OPTIMIZE TABLE s FINAL"))

-- a partition is dropped, the replica's session begins anew, background work is run, or the replica is synced
abbrev pub upkeep_turn : ℕ → Storm → Turn
upkeep_turn r s =
    let b = draw_at 0 s.state % 4 in
    if b == 0 then plain_turn (replica_line r (codes "ALTER TABLE s DROP PARTITION " ++ decimal (draw_at 1 s.state % 4))) 2 s else (
    if b == 1 then plain_turn (replica_line r (codes "SYSTEM RESTART REPLICA s")) 1 s else (
    if b == 2 then plain_turn (statement_line (codes "RUN s 20 SEED " ++ decimal (draw_at 1 s.state))) 2 s
    else plain_turn (replica_line r (codes "SYSTEM SYNC REPLICA s")) 1 s))

-- the statement that a draw below 16 gives at a replica
abbrev pub turn_of_kind : ℕ → ℕ → Storm → Turn
turn_of_kind a r s =
    if nat_lt a 9 then insert_turn r s else (
    if nat_lt a 10 then alter_or_count_turn r s else (
    if nat_lt a 12 then plain_turn (replica_line r (codes "SELECT count(), sum(v) FROM s SYNC")) 0 s else (
    if nat_lt a 14 then plain_turn (replica_line r (last_or_parts s.last)) 0 s else (
    if nat_lt a 15 then plain_turn (optimize_lines r s.alters) 0 s
    else upkeep_turn r s))))

abbrev pub turn_after : Storm → Turn
turn_after s = turn_of_kind (draw_at 0 s.state % 16) (1 + draw_at 1 s.state % 3) (record s { state = state_after 2 s.state })

-- ---- a script

-- so many turns
abbrev pub turns_text : ℕ → Storm → List ℕ
turns_text zero s = []
turns_text (suc n) s = (turn_after s).lines ++ turns_text n (turn_after s).next

-- three replicas and a table
abbrev pub first_lines : List ℕ
first_lines = codes "REPLICAS 3;\nCREATE TABLE s (k UInt64, v UInt64) ENGINE = ReplicatedMergeTree PARTITION BY intDiv(k, 1000) ORDER BY k SETTINGS index_granularity = 16;\n"

-- what each of them has at the end
abbrev pub last_lines : List ℕ
last_lines = codes "@r1 SELECT count(), sum(v) FROM s SYNC;\n@r2 SELECT count(), sum(v) FROM s SYNC;\n@r3 SELECT count(), sum(v) FROM s SYNC;\n"

-- the script of a seed, with so many turns
abbrev pub storm_text : ℕ → ℕ → List ℕ
storm_text seed n = (first_lines ++ turns_text n (record { state = seed; last = []; alters = 0 })) ++ last_lines
