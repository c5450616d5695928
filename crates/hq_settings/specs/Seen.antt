-- What the types of this crate hold, as the definitions have it.
use Rattle.hq_requests.specs.Directories.{relay_of, customers_of, named_keys}
use Rattle.hq_settings.specs.Settings.{Named, Set}
use Rattle.hq_settings.specs.declared.relay.Relay.{Relay}
use Rattle.hq_settings.specs.declared.settings.Settings.{Settings}

abbrev pub relay_seen : Relay → Named
relay_seen relay = record { host = relay.host; key = relay.key }

abbrev pub settings_seen : Settings → Set
settings_seen settings = record {
  relay = record { host = settings.host; key = relay_of settings.directory };
  customers = customers_of settings.directory;
  keys = named_keys settings.directory;
}
