-- What the contracts of a meter that serves clients in parallel refer to: ports and sessions.
pub mod Journaled
pub mod JournaledSessions
pub mod Listening
pub mod Ports
pub mod ServingAll
pub mod Sessions
pub mod WithSources
