use Rattle.pua_tree.proofs.ListingGrammar.{listings_are_read, listings_list_trees, second_forms_agree, third_forms_agree}
use Rattle.pua_tree.proofs.laws.listing_law.Goals as goal

pub returns-clause-read : goal.returns-clause-read
returns-clause-read c = listings_are_read

pub returns-clause-trees : goal.returns-clause-trees
returns-clause-trees c = listings_list_trees

pub returns-clause-forms : goal.returns-clause-forms
returns-clause-forms c = second_forms_agree

pub returns-clause-wide : goal.returns-clause-wide
returns-clause-wide c = third_forms_agree
