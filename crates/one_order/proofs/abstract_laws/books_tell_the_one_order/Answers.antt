use Rattle.one_order.proofs.EventBooks.{order_of_book}
use Rattle.one_order.proofs.Reports.{one_order}
use Rattle.one_order.proofs.abstract_laws.books_tell_the_one_order.Goals as goal

pub returns : goal.returns
returns c = record { histories = order_of_book; courses = one_order }
