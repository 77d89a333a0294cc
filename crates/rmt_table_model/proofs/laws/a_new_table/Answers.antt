use Rattle.rmt_table_model.proofs.NewLemmas.{new-steps}
use Rattle.rmt_table_model.proofs.laws.a_new_table.Goals as goal

pub returns : goal.returns
returns c = λ bytes schema count few. new-steps bytes schema count few
