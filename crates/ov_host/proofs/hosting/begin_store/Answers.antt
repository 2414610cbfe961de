use Rattle.ov_host.proofs.hosting.begin_store.Goals as goal

pub returns : goal.returns
returns g c =
    let begun = c.begin.ensures in record {
      opened = begun.begun;
      fault = begun.fault;
      any_moment = begun.any_moment;
      untouched = begun.untouched;
      memory = begun.memory;
      call = begun.call;
    }
