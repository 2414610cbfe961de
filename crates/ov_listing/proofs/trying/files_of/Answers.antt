use Rattle.ov_listing.proofs.AllOfThem.{files_told}
use Rattle.ov_listing.proofs.trying.files_of.Goals as goal

pub returns-in-Ok-clause-told : goal.returns-in-Ok-clause-told
returns-in-Ok-clause-told g c = λ alone v is_alone serves.
    let peer = g.P.Peer.tells in
    files_told alone v (peer.serves c.names_of.new.peer) (peer.serves c.lists_of.new.peer) c.args.wanted
    c.in-Ok.names.items c.deref.result.now c.lists_of.result c.in-Files.is c.deref.ensures.value
    (c.in-Ok.ensures.told alone v is_alone serves)
    (λ w mid. c.lists_of.ensures.told alone w is_alone mid)
