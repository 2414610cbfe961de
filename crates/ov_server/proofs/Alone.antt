-- Nobody else updates what a server in this process serves.
use Rattle.std.proofs.Common.{Ok}
use Rattle.ov_disk.specs.Tells.{DiskTells}
use Rattle.ov_server.specs.Answering.{AsksServer}
use Rattle.ov_server.specs.Locally.{AreAlone, answers_alone}

pub are_alone : {D : Type 0} (tells : DiskTells D) → AreAlone (λ p request reply q.
    AsksServer tells p q request reply (Ok tt))
are_alone tells = λ p q request reply v asked serves.
    answers_alone tells p q request reply v asked.answer serves
