-- What the program serves without words: a relay with two customers.
use Rattle.std.specs.Prelude.{[], ◌∷◌, true, codes}
use Rattle.hq_kept.specs.declared.account.Customer.{Customer}
use Rattle.hq_settings.specs.Settings.{Named, Set}

abbrev pub relay : Named
relay = record { host = codes "relay.example"; key = codes "relaykey00000001" }

-- a customer with small quotas
abbrev pub acme : Customer
acme = record {
  entry = record {
    name = codes "acme";
    quota = record { messages = 2; bytes = 10000; lines = 10; notices = 5; limits = λ _. true };
    delay = 3600;
    history = 0;
    limit = λ _. true;
    span = λ _. true;
  };
  key = codes "acmekey000000001";
}

-- a customer with large ones
abbrev pub birch : Customer
birch = record {
  entry = record {
    name = codes "birch";
    quota = record {
      messages = 100;
      bytes = 1000000;
      lines = 100;
      notices = 10;
      limits = λ _. true;
    };
    delay = 0;
    history = 0;
    limit = λ _. true;
    span = λ _. true;
  };
  key = codes "birchkey00000001";
}

abbrev pub settings : Set
settings = record { relay = relay; customers = acme ∷ birch ∷ []; keys = [] }
