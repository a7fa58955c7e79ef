-- What the contracts of the service APDUs GET, SET and ACTION (IEC 62056-5-3) refer to.
pub mod Numbers
pub mod Parts
pub mod Requests
pub mod Responses
