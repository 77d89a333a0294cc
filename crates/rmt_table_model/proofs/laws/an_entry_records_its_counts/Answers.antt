use Rattle.rmt_table_model.proofs.CountLemmas.{recorded-count, merged-count, mutations-through}
use Rattle.rmt_table_model.proofs.laws.an_entry_records_its_counts.Goals as goal

pub returns-clause-recorded : goal.returns-clause-recorded
returns-clause-recorded c = λ schema log i e a l h q r. recorded-count schema log i e a l h q r

pub returns-clause-merged : goal.returns-clause-merged
returns-clause-merged c = λ schema log a b rest new count l m. merged-count schema log a b rest new count l m

pub returns-clause-mutations : goal.returns-clause-mutations
returns-clause-mutations c = λ schema log i id numbers command l e. mutations-through schema log i id numbers command l e
