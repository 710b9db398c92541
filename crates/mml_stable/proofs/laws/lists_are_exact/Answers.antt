use Rattle.mml_stable.proofs.ListedLemmas.{pairs_listed, free_listed, privileged_listed, open_listed}
use Rattle.mml_stable.proofs.laws.lists_are_exact.Goals as goal

pub returns-clause-pairs : goal.returns-clause-pairs
returns-clause-pairs c = λ d p l. pairs_listed d l p

pub returns-clause-free : goal.returns-clause-free
returns-clause-free c = λ d i l. free_listed d l i

pub returns-clause-privileged : goal.returns-clause-privileged
returns-clause-privileged c = λ d p l. privileged_listed d l p

pub returns-clause-open_links : goal.returns-clause-open_links
returns-clause-open_links c = λ d k l. open_listed d l k
