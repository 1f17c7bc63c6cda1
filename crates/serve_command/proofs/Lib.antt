mod Beside
mod Clients
mod GatewayRun
mod Rolls
mod Served
mod WhyUnserved
