use Rattle.tag_table.proofs.Free.{free_tag-found, free_tag-lowest, free_tag-none, free_tag-all_out}
use Rattle.tag_table.proofs.laws.first_free_is_lowest.Goals as goal

pub returns-clause-found : goal.returns-clause-found
returns-clause-found c = λ tags t. (free_tag-found tags t, free_tag-lowest tags t)

pub returns-clause-none : goal.returns-clause-none
returns-clause-none c = λ tags. (free_tag-none tags, free_tag-all_out tags)
