-- What a replica executes is read exactly.
use Rattle.std.proofs.Common.{◌++◌, refl, Bool, true}
use Rattle.std.specs.Prelude.{codes}
use Rattle.rmt_sql_tokens.specs.Exact.{never}
use Rattle.rmt_sql_tokens.proofs.Laws.{Law, law_either}
use Rattle.rmt_sql_acts.specs.Phrases.{word}
use Rattle.rmt_sql_acts.specs.Acts.{row_act, row_act_firsts, act}
use Rattle.rmt_sql_acts.proofs.SelectLaws.{select_law, alter_law, service_firsts, service_law}
use Rattle.rmt_sql_acts.proofs.InsertLaws.{insert_law}

pub row_act_law : (may_set : Bool) → Law (row_act may_set) never row_act_firsts
unfolding row_act
row_act_law may_set =
    law_either _ _ never (word (codes "insert")) _ (insert_law may_set) (law_either _ _ never (word (codes "select")) _ (select_law may_set) alter_law refl) refl

pub act_law : Law act never (row_act_firsts ++ service_firsts)
unfolding act
act_law = law_either _ _ never row_act_firsts service_firsts (row_act_law true) service_law refl
