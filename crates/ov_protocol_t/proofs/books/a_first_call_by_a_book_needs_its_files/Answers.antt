use Rattle.ov_protocol_t.specs.Premises.{masters}
use Rattle.ov_protocol_t.proofs.FirstCalls.{first_call}
use Rattle.ov_protocol_t.proofs.books.a_first_call_by_a_book_needs_its_files.Goals as goal

pub returns : goal.returns
returns g c =
    first_call _ (masters c.args.base.now.bytes c.args.surface.bytes) c.args.job.mode
    c.new_books_are_served.ensures c.args.job.act (g.K.Source.tells.left c.args.keys.now)
    (g.B.Source.tells.left c.args.body.now) c.in_ok-peer.peer c.own-owned.new.peer
    c.new-disk.result c.own-owned.result c.new-disk.ensures
    c.a_server_in_this_process_is_alone.ensures.asked
    c.a_server_in_this_process_is_alone.ensures.failed c.in_ok-peer.ensures.serves
    c.own-owned.ensures.one_book
