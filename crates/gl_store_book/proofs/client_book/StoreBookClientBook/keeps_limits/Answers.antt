use Rattle.gl_store_book.proofs.client_book.StoreBookClientBook.keeps_limits.Goals as goal

pub returns : goal.returns
returns c = λ given fits. fits
