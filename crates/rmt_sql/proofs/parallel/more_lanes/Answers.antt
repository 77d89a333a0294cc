use Rattle.std.proofs.Common.{◌≡◌, ◌∙◌, sym, Bool, true, false, refl}
use Rattle.std.specs.Prelude.{codes, ◌&&◌}
use Rattle.std.proofs.lemmas.Result.{err_from_is_err_and}
use Rattle.rmt_sql_tokens.specs.Lexing.{tokens}
use Rattle.rmt_sql_tokens.specs.Classes.{next_among}
use Rattle.rmt_sql_tokens.specs.Exact.{item}
use Rattle.rmt_sql_tokens.proofs.Laws.{on_last, law_item}
use Rattle.rmt_sql_tokens.proofs.Loops.{left_stop, left_fails, left_on, takes_some}
use Rattle.rmt_sql_acts.specs.Phrases.{word}
use Rattle.rmt_sql.specs.Grammar.{may_follow, lane}
use Rattle.rmt_sql.proofs.StatementLaws.{on_lane, lane_law}
use Rattle.rmt_sql.proofs.parallel.more_lanes.Goals as goal

first_false : (a b : Bool) → a ≡ false → a && b ≡ false
first_false a b h = rw h refl

second_false : (a b : Bool) → b ≡ false → a && b ≡ false
second_false true b h = h
second_false false b h = refl

both_true : (a b : Bool) → a ≡ true → b ≡ true → a && b ≡ true
both_true a b h k = rw h k

pub returns-then-not-is_room : goal.returns-then-not-is_room
returns-then-not-is_room c =
    let full : may_follow c.lanes.all.items ≡ false = rw (← c.deref.ensures.value) (sym c.is_room.ensures ∙ c.if-not-is_room.true) in
    left_stop may_follow (word (codes "lane")) (λ all. (item lane all).read) c.lanes.all.items (tokens c.lanes.rest) _ c.lanes.invariant (first_false (may_follow c.lanes.all.items) (next_among (word (codes "lane")) (tokens c.lanes.rest)) full)

pub returns-then-not-is_keyword_next : goal.returns-then-not-is_keyword_next
returns-then-not-is_keyword_next c =
    left_stop may_follow (word (codes "lane")) (λ all. (item lane all).read) c.lanes.all.items (tokens c.lanes.rest) _ c.lanes.invariant
    (second_false (may_follow c.lanes.all.items) (next_among (word (codes "lane")) (tokens c.lanes.rest)) (sym c.is_keyword_next.ensures ∙ c.if-not-is_keyword_next.true))

pub returns-in_err-rest : goal.returns-in_err-rest
returns-in_err-rest c =
    let room : may_follow c.lanes.all.items ≡ true = rw (← c.deref.ensures.value) (sym c.is_room.ensures ∙ c.if-not-is_room.false) in
    let goes = both_true (may_follow c.lanes.all.items) (next_among (word (codes "lane")) (tokens c.lanes.rest)) room (sym c.is_keyword_next.ensures ∙ c.if-not-is_keyword_next.false) in
    let p = err_from_is_err_and c.from_residual.result c.from_residual.ensures.1 in
    rw (p.1, p.2) (left_fails may_follow (word (codes "lane")) (λ all. (item lane all).read) c.lanes.all.items (tokens c.lanes.rest) _ c.in_err-rest.field-0.0 c.lanes.invariant goes c.in_err-rest.ensures)

pub lanes-smaller : goal.lanes-smaller
lanes-smaller c = takes_some (item lane c.lanes.all.items) (on_last on_lane) (word (codes "lane")) (law_item lane c.lanes.all.items on_lane (word (codes "lane")) lane_law) (tokens c.lanes.rest) c.item_lane.new.all.items (tokens c.in_ok-rest.rest) c.in_ok-rest.ensures

pub lanes-preserved : goal.lanes-preserved
lanes-preserved c =
    let room : may_follow c.lanes.all.items ≡ true = rw (← c.deref.ensures.value) (sym c.is_room.ensures ∙ c.if-not-is_room.false) in
    let goes = both_true (may_follow c.lanes.all.items) (next_among (word (codes "lane")) (tokens c.lanes.rest)) room (sym c.is_keyword_next.ensures ∙ c.if-not-is_keyword_next.false) in
    let less = takes_some (item lane c.lanes.all.items) (on_last on_lane) (word (codes "lane")) (law_item lane c.lanes.all.items on_lane (word (codes "lane")) lane_law) (tokens c.lanes.rest) c.item_lane.new.all.items (tokens c.in_ok-rest.rest) c.in_ok-rest.ensures in
    left_on may_follow (word (codes "lane")) (λ all. (item lane all).read) c.lanes.all.items (tokens c.lanes.rest) c.item_lane.new.all.items (tokens c.in_ok-rest.rest) _ c.lanes.invariant less goes c.in_ok-rest.ensures
