-- Which requests need the disk.
use Rattle.std.proofs.Common.{◌≡◌, ℕ, Result, Ok, inl, inr, subst}
use Rattle.ov_wire.specs.declared.request.Request.{Request}
use Rattle.ov_wire.specs.declared.request.Request.TheVariants as requests
use Rattle.ov_wire.specs.Requests.{HasRequestForm, request_bytes}
use Rattle.ov_wire.specs.RequestReading.{request_of}
use Rattle.ov_protocol.specs.Serving.{Serving}
use Rattle.ov_protocol.proofs.Reading.{request_back}
use Rattle.ov_peer.specs.Disks.{MayNeedDisk, NeedsDisk}

-- two readings of one frame are the same request
same_request : (read : Result Request ℕ) (r s : Request) → read ≡ Ok r → read ≡ Ok s → r ≡ s
same_request read r s one two = cc (one, two)

-- a request that needs the disk is an Update or a Chunk
pub needs_disk : (s : Serving) (request : Request) → HasRequestForm request
    → NeedsDisk s (request_bytes request) → MayNeedDisk request
needs_disk s request form (inl (u, has)) =
    let update : Request = requests.Update s.catalogue.epoch has.spelling has.tag in
    subst MayNeedDisk
    (same_request (request_of (request_bytes request)) update request has.is
    (request_back request form))
    tt
needs_disk s request form (inr asks) =
    let chunk : Request = requests.Chunk asks.file asks.generation asks.start asks.count in
    subst MayNeedDisk
    (same_request (request_of (request_bytes request)) chunk request asks.is
    (request_back request form))
    tt
