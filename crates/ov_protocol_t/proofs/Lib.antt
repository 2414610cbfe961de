pub mod FirstCalls
pub mod NewStores
pub mod OnlyUsers
